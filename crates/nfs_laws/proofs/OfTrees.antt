-- Lemmas on what the edits of a tree leave a tree, and how much room they take. Serves: `trees` and `laws`.
pub mod FilesFit
pub mod GivenAnew
pub mod Making
pub mod Removing
pub mod Above
pub mod EditRoom
pub mod RenameRoom
pub mod Renaming
