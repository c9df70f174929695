pub use Rattle.nfs_laws.specs as nfs_laws
pub use Rattle.nfs_laws.specs.nfs_spec as nfs_spec
pub mod Links
pub mod Counted
pub mod CountChanges
