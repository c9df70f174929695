pub mod Decides
pub mod FreeNames
pub mod Creates
pub mod Moves
