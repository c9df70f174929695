pub mod Members
pub mod Reaching
pub mod Exchanges
pub mod Laws
