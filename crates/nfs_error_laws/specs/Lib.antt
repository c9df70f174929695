pub mod Checks
pub mod Tables
