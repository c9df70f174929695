pub mod UnderLock
pub mod Growing
