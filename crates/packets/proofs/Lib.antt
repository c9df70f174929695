pub mod Contents
pub mod Judged
pub mod Spelled
pub mod Taken
pub mod Using
pub use Rattle.envelopes.proofs as envelopes
