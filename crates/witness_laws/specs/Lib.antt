pub use Rattle.witness_spec.specs.packets as packets
pub use Rattle.witness_spec.specs.state_spec as state_spec
pub use Rattle.witness_spec.specs.evidence_spec as evidence_spec
pub use Rattle.witness_spec.specs as witness_spec
pub mod Audits
pub mod Challenges
