pub use Rattle.server_spec.proofs as server_spec
pub mod Orders
pub mod Back
pub mod Forth
pub mod Fitting
pub mod Ruled
pub mod Texts
pub mod Worlds
