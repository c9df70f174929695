pub mod Checking
pub mod PutBack
