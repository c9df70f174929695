pub mod StoredTrees
pub mod Paths
pub mod LeafSignatures
pub mod SignatureTexts
