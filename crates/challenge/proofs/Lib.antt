pub mod Suffixes
pub mod Found
pub mod CaseTexts
pub mod Texts
pub mod OneFinding
pub mod OneText
pub mod Forks
pub mod Logs
pub mod BasedTexts
pub mod BaseStates
pub mod GoodBases
pub use Rattle.evidence_showings.proofs as evidence_showings
pub use Rattle.replay.proofs as replay
