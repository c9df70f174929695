-- Lemmas on books that keep their contract. Serves: `books`.
pub mod Standing
pub mod Runs
pub mod Journals
pub mod Telling
