mod OfTrees
pub mod OfParts
pub mod Chosen
pub mod Fronted
pub mod MountedHosts
pub mod OneText
pub mod PartStates
pub mod SharedStates
