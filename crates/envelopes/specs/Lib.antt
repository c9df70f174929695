pub mod Envelope
pub mod Acknowledgement
pub mod Checking
pub use Rattle.secure_log.specs as secure_log
