pub mod OfPieces
pub mod OfStops
pub mod OfBounds
pub mod OfFragments
