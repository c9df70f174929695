pub mod Ends
pub mod Shown
pub mod Telling
pub mod Answers
pub mod BaseGiving
pub mod Segments
pub mod Filed
