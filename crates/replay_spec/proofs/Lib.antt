pub mod OfLogLaws
pub mod OfStateLaws
pub mod Stepping
pub mod Runs
pub mod Places
pub mod Logs
pub use Rattle.secure_log.proofs.authenticator as authenticator
pub use Rattle.secure_log.proofs as secure_log
