pub mod Lost
pub mod Roles
pub mod Exchanges
pub mod Delivery
pub mod Faults
pub mod Directs
pub mod Shareds
pub mod Sides
pub use Rattle.gateway.specs as gateway
