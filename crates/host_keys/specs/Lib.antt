pub mod Lines
pub mod Members
pub mod Beginnings
pub mod Spent
pub mod Rosters
