pub mod Bounds
pub mod Kept
pub mod Numbered
