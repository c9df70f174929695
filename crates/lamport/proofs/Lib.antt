pub mod LeafTexts
pub mod ShownKeys
mod FourLeaves
