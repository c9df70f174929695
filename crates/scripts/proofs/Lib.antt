pub use Rattle.witness_calls.proofs as witness_calls
pub mod Answering
pub mod Running
pub mod OneNode
pub mod GivenBases
