pub use Rattle.nfs_items.proofs as nfs_items
pub use Rattle.nfs_laws.proofs as nfs_laws
mod Told
