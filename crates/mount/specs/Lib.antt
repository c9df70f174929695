pub use Rattle.mount_types.specs as mount_types
pub use Rattle.file_tree.specs.nfs_spec as nfs_spec
pub use Rattle.server_spec.specs as server_spec
pub mod Performs
