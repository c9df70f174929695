pub mod OfSigned
pub mod OfLimits
pub mod Bytes
pub mod Computed
pub mod Hashes
pub mod Many
pub mod Telling
