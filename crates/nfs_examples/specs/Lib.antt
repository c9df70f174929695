pub mod Worked
pub mod Linked
pub mod AtLimits
