pub use Rattle.witness_spec.proofs.packets as packets
pub use Rattle.witness_spec.proofs.state_spec as state_spec
pub use Rattle.witness_spec.proofs as witness_spec
pub use Rattle.witness_spec.proofs.evidence_spec as evidence_spec
pub mod OfAnswers
pub mod OfBooks
pub mod OfTrust
pub mod OfEvidence
pub mod Replied
pub mod OwnSteps
pub mod LeftOut
pub mod Exposing
pub mod Checked
pub mod Reach
pub mod Doing
