-- Lemmas on states and their digests. Serves: the laws of `state_laws`.
pub mod Bounded
pub mod Lengths
pub mod Heads
pub mod SameTexts
pub mod SameMachines
pub mod Telling
pub mod MachineSteps
pub mod MessagesFit
pub mod OpeningWorlds
pub mod TextsSpelled
pub mod Spelled
