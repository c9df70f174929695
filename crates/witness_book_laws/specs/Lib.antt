pub mod Books
pub mod Replying
pub mod Going
pub mod Fitting
pub mod Together
pub mod LookUps
pub mod Answers
pub mod Keeping
pub mod Laws
pub mod Ready
pub mod ReadyLaws
pub use Rattle.witness_laws.specs as witness_laws
