pub use Rattle.nfs_spec.proofs.fs_spec as fs_spec
pub use Rattle.nfs_spec.proofs as nfs_spec
pub mod OfReaddir
pub mod OfSteps
pub mod OfTrees
pub mod OfChanges
pub mod OfFrames
pub mod OfSizes
pub mod Bytes
pub mod FilesFit
pub mod Setting
pub mod Paths
pub mod EveryCall
pub mod RoomBefore
pub mod Determined
