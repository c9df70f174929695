-- Lemmas on how many bytes answers take, and that their values fit. Serves: `sizes`.
pub mod Values
pub mod OfCalls
pub mod Words
pub mod Lengths
pub mod ReadCalls
