pub use Rattle.nfs_spec.proofs as nfs_spec
pub use Rattle.inode_table.proofs.tree_rules as tree_rules
mod OfNameChecks
pub mod OfFileChecks
mod FilesSeen
mod KeptDigests
mod MissingDigests
mod RenamedDigests
mod RenewedDigests
pub mod WritableFiles
mod LookUpPaths
mod PageNames
mod CreatedFiles
mod Renamed
mod Removed
