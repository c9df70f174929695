pub use Rattle.merkle_keys.specs as merkle_keys
pub mod Numbers
pub mod Roster
pub mod Signed
pub mod Signing
pub mod Checking
pub mod RefusalNumbers
pub mod Laws
