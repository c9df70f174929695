pub mod Faulted
pub mod ForkTexts
pub mod Mapped
pub mod Reaching
pub mod Taken
pub mod Shown
pub mod Starts
pub mod Searches
pub mod LookUps
pub mod SameReplies
pub mod Wanting
pub use Rattle.evidence_spec.proofs as evidence_spec
pub use Rattle.witness_spec.proofs as witness_spec
pub use Rattle.witness_book_laws.proofs.witness_laws as witness_laws
pub use Rattle.witness_book_laws.proofs as witness_book_laws
