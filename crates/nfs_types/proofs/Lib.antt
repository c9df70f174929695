pub mod OfResultTexts
pub mod ArgumentsRead
pub mod Bounded
