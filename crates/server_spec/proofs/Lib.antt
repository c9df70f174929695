pub use Rattle.nfs_laws.proofs.nfs_spec as nfs_spec
pub mod Mounted
pub mod Listed
pub mod MountSteps
pub mod MountSizes
pub mod Answering
pub mod Sizes
pub mod Staying
pub mod Files
