pub mod Answers
pub mod Granted
pub mod Read
