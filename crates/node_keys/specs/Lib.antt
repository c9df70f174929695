pub mod Masters
pub mod KeyedNode
