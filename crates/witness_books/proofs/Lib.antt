pub mod Rosters
pub mod Starts
pub mod Routes
pub mod Places
pub mod Stepping
pub mod Running
pub mod Noting
pub mod Memory
pub mod Witnessed
pub mod Given
pub mod Refused
pub mod Delivering
pub use Rattle.node_book.proofs as node_book
