pub mod UnderLock
pub mod OfAnswers
pub mod OfLines
pub mod OfRosters
mod OfListed
pub mod OfPackets
pub mod OfOverlaps
