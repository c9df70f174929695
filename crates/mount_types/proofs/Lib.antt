pub mod ArgumentsRead
pub mod Bounded
pub mod AnswersSaid
pub mod AnswersRead
pub use Rattle.nfs_items.proofs as nfs_items
