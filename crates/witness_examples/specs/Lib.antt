pub mod Signed
pub mod Limits
pub mod Worked
pub mod Bytes
pub mod Forks
pub mod Answered
pub mod Exposed
pub mod Reaching
