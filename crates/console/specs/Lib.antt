pub mod Checking
pub mod Contents
pub mod Bases
pub use Rattle.authenticator.specs as authenticator
