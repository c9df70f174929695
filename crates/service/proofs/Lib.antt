pub use Rattle.nfs_procs.proofs.nfs_items as nfs_items
pub use Rattle.rpc.proofs as rpc
pub use Rattle.fs_spec.proofs as fs_spec
pub use Rattle.nfs_procs.proofs.nfs_laws as nfs_laws
pub use Rattle.server_spec.proofs as server_spec
pub mod Named
pub mod Replied
mod KeptWorlds
