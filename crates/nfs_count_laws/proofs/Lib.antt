pub use Rattle.nfs_laws.proofs as nfs_laws
pub use Rattle.nfs_laws.proofs.nfs_spec as nfs_spec
pub mod OfLinks
pub mod OfMoves
pub mod Kept
pub mod Unnaming
pub mod Contents
pub mod Making
pub mod Linking
pub mod Unlinking
pub mod Facts
