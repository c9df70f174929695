pub use Rattle.xdr.proofs as xdr
pub mod Credentials
pub mod Handles
pub mod Programs
pub mod Outcomes
