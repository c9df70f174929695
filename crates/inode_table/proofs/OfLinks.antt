-- Lemmas on the counts kept beside inodes. Serves: `links`.
pub mod Linking
pub mod Counting
pub mod Whole
