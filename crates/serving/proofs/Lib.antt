pub use Rattle.nodes.proofs as nodes
pub mod Links
mod Runs
