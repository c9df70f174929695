-- Lemmas on counts of the names of each file. Serves: `links`.
pub mod ListingCounts
pub mod LinkCounts
