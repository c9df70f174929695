pub mod Directories
pub mod Inodes
pub mod Contents
pub mod Edits
pub mod Given
pub mod InodeLookUp
