pub mod Slots
pub mod Seats
pub mod Places
pub mod Codes
pub mod Laws
pub use Rattle.replay_jobs.specs as replay_jobs
