pub use Rattle.nfs_count_laws.proofs.nfs_laws as nfs_laws
pub use Rattle.tree_rules.proofs as tree_rules
pub mod OfEdits
pub mod OfLinks
mod InodesSeen
mod Tables
mod KeptContents
mod KeptNames
mod KeptRemoval
mod MovedEntry
mod OpeningInodes
pub mod GivenInodes
