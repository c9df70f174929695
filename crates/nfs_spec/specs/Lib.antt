pub use Rattle.fs_spec.specs as fs_spec
pub use Rattle.fs_spec.specs.nfs_items as nfs_items
pub use Rattle.nfs_types.specs as nfs_types
pub mod ProcedureChecks
pub mod Sattr
pub mod Changes
pub mod FileAttributes
pub mod Effects
pub mod Readdir
pub mod Procedures
pub mod NfsCalls
pub mod Opening
pub mod LawTerms
