pub mod Values
pub mod Packet
pub mod Judging
pub mod Taking
pub mod Delivered
pub mod Uses
pub mod Laws
pub use Rattle.envelopes.specs as envelopes
