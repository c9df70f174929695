pub use Rattle.replay_spec.specs.secure_log as secure_log
pub use Rattle.replay_spec.specs as replay_spec
pub mod Showing
pub mod Base
pub mod Evidence
pub mod Proving
pub mod Laws
