-- Lemmas on what RENAME does to counts of names. Serves: `moves`.
pub mod Clearing
pub mod Moving
