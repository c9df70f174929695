pub use Rattle.state_spec.proofs as state_spec
pub use Rattle.file_texts.proofs as file_texts
pub use Rattle.state_spec.proofs.server_spec as server_spec
pub mod OfStates
pub mod StatesFit
pub mod Numbers
pub mod Served
pub mod KeptStates
