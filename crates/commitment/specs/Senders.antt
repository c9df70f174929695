pub mod Sender
pub mod LookUps
pub mod Keeping
