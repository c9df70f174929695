-- Lemmas on inodes whose entries come, change and go. Serves: `edits`.
pub mod EditedInodes
pub mod EditedContents
pub mod NamedInodes
pub mod Listed
pub mod Dropped
