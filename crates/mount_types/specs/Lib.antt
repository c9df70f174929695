pub use Rattle.nfs_items.specs as nfs_items
pub mod Calls
pub mod Items
pub mod Texts
pub mod Arguments
pub mod Results
pub mod Bounds
pub mod Mounts
