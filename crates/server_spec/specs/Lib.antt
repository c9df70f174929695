pub use Rattle.mount_types.specs as mount_types
pub use Rattle.nfs_laws.specs as nfs_laws
pub use Rattle.nfs_laws.specs.nfs_spec as nfs_spec
pub mod World
pub mod IsWorld
pub mod Paths
pub mod Walks
pub mod MountCalls
pub mod Machines
pub mod Replies
pub mod Owed
pub mod FileItems
pub mod FileValues
