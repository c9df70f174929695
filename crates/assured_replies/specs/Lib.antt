pub mod Owed
pub mod Laws
pub mod Gateways
pub mod Example
