pub use Rattle.inodes.specs as inodes
pub mod FileRules
pub mod Listed
pub mod Counting
pub mod GivenListing
