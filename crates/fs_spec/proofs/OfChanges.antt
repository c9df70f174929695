-- Lemmas on what changes of files leave of entries, listings and room. Serves: `changes`.
pub mod Finite
pub mod Listings
pub mod Shapes
pub mod Room
