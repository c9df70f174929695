pub use Rattle.checkpoint.specs as checkpoint
pub use Rattle.replay_spec.specs as replay_spec
pub use Rattle.checkpoint.specs.state_machine as state_machine
pub mod Faults
pub mod Steps
pub mod Endings
pub mod Verdicts
