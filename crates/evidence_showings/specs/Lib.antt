pub use Rattle.evidence_spec.specs as evidence_spec
pub mod Kinds
pub mod Plain
pub mod Worded
pub mod Showings
pub mod Bases
pub mod ReadBases
