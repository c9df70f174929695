pub mod Entries
pub mod Pages
