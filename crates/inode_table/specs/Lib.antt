pub use Rattle.fs_spec.specs as fs_spec
pub use Rattle.tree_rules.specs.inodes as inodes
pub use Rattle.nfs_count_laws.specs as nfs_count_laws
pub use Rattle.nfs_count_laws.specs.nfs_laws as nfs_laws
pub use Rattle.tree_rules.specs as tree_rules
pub mod Edits
pub mod Links
pub mod Kept
