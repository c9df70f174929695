pub mod Chosen
pub mod Answered
pub mod Based
pub mod OnceFinished
pub mod UnderLock
