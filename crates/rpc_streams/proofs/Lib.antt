pub mod InTurn
pub mod Filled
pub mod Written
pub mod LoopProgress
