pub use Rattle.inodes.proofs as inodes
pub mod OfFileRules
pub mod Naming
pub mod Counted
pub mod Seen
pub mod Reading
pub mod Totals
