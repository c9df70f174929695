pub use Rattle.nfs_procs.specs.nfs_items as nfs_items
pub use Rattle.rpc.specs as rpc
pub use Rattle.server_spec.specs as server_spec
pub mod Views
pub mod KeptWorld
