pub use Rattle.evidence_spec.proofs as evidence_spec
pub mod Texts
pub mod Words
pub mod Written
pub mod Marks
pub mod Bases
pub mod Entries
