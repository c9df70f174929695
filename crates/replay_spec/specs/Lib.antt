pub use Rattle.secure_log.specs.authenticator as authenticator
pub use Rattle.secure_log.specs as secure_log
pub use Rattle.state_spec.specs as state_spec
pub mod Bodies
pub mod LogLaws
pub mod StateLaws
pub mod StateSteps
pub mod Shown
pub mod Placed
pub mod Steps
pub mod Stepping
pub mod Replay
pub mod Opening
pub mod HonestLogs
pub mod Laws
pub mod Examples
