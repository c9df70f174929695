pub use Rattle.fs_spec.proofs as fs_spec
pub mod Answered
pub mod OpeningFiles
pub mod Lookups
pub mod Present
pub mod OpeningTree
