pub use Rattle.server_spec.specs as server_spec
pub mod Limits
pub mod State
pub mod Steps
pub mod Codes
pub mod StateItems
pub mod StateText
pub mod StateValues
pub mod Rules
