pub mod Shown
pub mod Lacks
pub mod Numbers
pub mod Starts
