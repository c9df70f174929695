pub use Rattle.witness_service.specs as witness_service
pub mod Closing
pub mod Shelves
pub mod Telling
