pub mod Count
pub mod Record
pub mod Stream
pub mod Reading
pub mod Writing
pub mod Fault
pub mod Ahead
