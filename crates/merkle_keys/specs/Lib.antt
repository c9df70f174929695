pub use Rattle.lamport.specs as lamport
pub mod Tree
pub mod Signing
pub mod BoundTexts
pub mod Texts
pub mod StoredTree
pub mod FaultNumbers
