pub mod Bases
pub mod Ends
pub mod Nodes
pub mod Said
pub mod Turns
pub use Rattle.witness_calls.specs as witness_calls
