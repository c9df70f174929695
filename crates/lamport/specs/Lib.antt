pub mod Lamport
pub mod Bound
pub mod Fours
pub mod LeafTexts
pub use Rattle.sha256_lanes.specs as sha256_lanes
