pub mod Readings
pub mod Exchanges
pub mod FaultNumbers
