pub mod Lanes
pub mod Rows
pub mod LongMessages
pub mod OneMessage
