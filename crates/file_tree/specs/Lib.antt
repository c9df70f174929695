pub use Rattle.inode_table.specs.fs_spec as fs_spec
pub use Rattle.nfs_spec.specs as nfs_spec
pub use Rattle.nfs_spec.specs.nfs_types as nfs_types
pub use Rattle.inode_table.specs.tree_rules as tree_rules
pub mod NameChecks
pub mod FileChecks
pub mod KeptDigests
pub mod LookUps
pub mod Performs
