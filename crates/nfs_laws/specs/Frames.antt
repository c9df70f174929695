pub mod Named
pub mod Runs
pub mod Done
pub mod Gone
