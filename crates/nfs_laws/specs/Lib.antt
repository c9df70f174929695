pub use Rattle.nfs_spec.specs.fs_spec as fs_spec
pub use Rattle.nfs_spec.specs as nfs_spec
pub mod Readdir
pub mod Steps
pub mod Trees
pub mod Changes
pub mod Frames
pub mod Sizes
pub mod Room
pub mod Laws
