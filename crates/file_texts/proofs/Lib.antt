pub use Rattle.xdr.proofs as xdr
pub use Rattle.fs_spec.proofs as fs_spec
pub mod Arrays
mod NumberedFiles
mod PartsAdded
