pub mod Links
pub mod Runs
pub use Rattle.auditing.specs.witness_calls as witness_calls
pub use Rattle.nodes.specs as nodes
pub use Rattle.auditing.specs as auditing
