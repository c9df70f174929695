pub mod Journals
pub mod Claims
pub mod Closing
pub mod Codes
pub mod Caching
pub mod Hashing
