pub use Rattle.nfs_items.specs as nfs_items
pub mod Changes
pub mod Maxima
pub mod Names
pub mod Listing
pub mod Paths
pub mod Files
pub mod Trees
