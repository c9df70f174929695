pub use Rattle.service.specs as service
pub mod Links
pub mod Serving
pub mod Faults
