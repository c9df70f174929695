pub mod Loads
pub mod Turns
