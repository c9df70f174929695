pub mod Answered
pub mod Histories
pub mod Lines
pub mod Opened
pub mod Overlaps
pub mod Rosters
pub mod Brought
