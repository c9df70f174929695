pub use Rattle.evidence_showings.specs as evidence_showings
pub use Rattle.replay.specs as replay
pub use Rattle.evidence_showings.specs.evidence_spec as evidence_spec
pub mod FaultNumbers
pub mod KnownBases
pub mod BaseFiles
pub mod BaseStates
pub mod BasedReplays
pub mod Charges
pub mod Findings
pub mod Laws
pub mod Cases
pub mod Readings
pub mod Taking
pub mod ReadBased
pub mod ReadCharges
