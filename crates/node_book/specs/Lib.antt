pub use Rattle.evidence_spec.specs as evidence_spec
pub use Rattle.witness_book_laws.specs.witness_laws as witness_laws
pub use Rattle.witness_book_laws.specs as witness_book_laws
pub use Rattle.witness_spec.specs as witness_spec
pub use Rattle.replay_jobs.specs as replay_jobs
pub use Rattle.challenge.specs as challenge
pub mod Events
pub mod Replies
pub mod Shares
pub mod Outboxes
pub mod Rows
pub mod Stepping
pub mod BookCodes
pub mod NoteCodes
pub mod Deciding
pub mod Looking
pub mod Shown
