-- Lemmas on the entries of a directory by their cookies. Serves: `directories`.
pub mod Cuts
pub mod Fronts
pub mod Listings
pub mod Rising
