pub mod Counting
pub mod Keeping
pub mod Naming
pub mod Rows
pub mod Taken
pub use Rattle.replay_jobs.proofs as replay_jobs
