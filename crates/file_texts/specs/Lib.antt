pub use Rattle.xdr.specs as xdr
pub use Rattle.fs_spec.specs as fs_spec
pub use Rattle.fs_spec.specs.nfs_items as nfs_items
pub use Rattle.server_spec.specs as server_spec
pub mod Parts
pub mod Bounds
pub mod Stored
pub mod Alone
