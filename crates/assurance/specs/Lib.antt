pub mod Events
pub mod Assured
pub mod Keeping
pub mod Learning
pub mod Exchanges
pub mod Passing
