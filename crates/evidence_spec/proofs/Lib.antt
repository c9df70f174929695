pub use Rattle.replay_spec.proofs.secure_log as secure_log
pub use Rattle.replay_spec.proofs as replay_spec
pub mod Chained
pub mod Gaps
pub mod ShownMarks
pub mod Contents
pub mod Parts
pub mod Shown
pub mod Reached
pub mod Replayed
pub mod Based
pub mod Accepted
pub mod Closed
pub mod Nothing
pub mod OneReading
