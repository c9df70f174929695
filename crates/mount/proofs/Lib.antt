pub mod Slashes
pub mod Walked
