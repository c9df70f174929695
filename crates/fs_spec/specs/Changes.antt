pub mod Edits
pub mod Limits
