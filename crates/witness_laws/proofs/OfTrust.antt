-- Lemmas on what a node shows while its log is honest. Serves: `trust`.
pub mod Pairs
pub mod Trust
