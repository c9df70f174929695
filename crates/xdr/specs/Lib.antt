pub mod Texts
pub mod Item
pub mod Fault
pub mod Reading
pub mod Writing
pub mod ReadFault
pub mod ArraysAndUnions
