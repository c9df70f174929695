-- Lemmas on the files of a tree as a text. Serves: `trees`.
pub mod GivenTrees
pub mod WrittenFiles
pub mod KeptFiles
