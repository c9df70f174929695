pub mod Clients
pub mod Shared
pub mod Rounds
