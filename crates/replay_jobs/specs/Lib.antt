pub use Rattle.witness_spec.specs as witness_spec
pub mod Codes
pub mod Jobs
pub mod Backs
