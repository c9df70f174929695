-- Lemmas on signatures that are kept by their numbers. Serves: `signings`.
pub mod Searches
pub mod Signed
