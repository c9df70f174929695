-- Lemmas on rules of single files, from which a tree follows. Serves: `file_rules`.
pub mod Climbs
pub mod Listed
pub mod ListedEntries
pub mod Ways
pub mod Decided
