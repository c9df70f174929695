pub mod RunRpc
pub mod Batches
