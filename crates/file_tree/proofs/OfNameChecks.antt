-- Lemmas on the checks of REMOVE, RMDIR and RENAME. Serves: `name_checks`.
pub mod Chains
pub mod Unnamed
pub mod Climbs
pub mod Moved
