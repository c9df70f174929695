pub use Rattle.packets.proofs as packets
pub use Rattle.state_spec.proofs as state_spec
pub use Rattle.evidence_spec.proofs as evidence_spec
pub use Rattle.evidence_spec.proofs.replay_spec as replay_spec
