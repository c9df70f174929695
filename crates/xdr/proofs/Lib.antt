pub mod OfTexts
pub mod Front
pub mod Exact
pub mod Room
