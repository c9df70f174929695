pub mod OfExchanges
pub mod Delivered
pub mod Asked
pub mod Replied
pub mod Stopped
pub mod Handed
pub mod Unjoined
pub mod OfSides
pub mod UnderLock
pub use Rattle.gateway.proofs as gateway
