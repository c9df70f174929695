pub mod Names
pub mod Moves
