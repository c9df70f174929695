pub use Rattle.packets.specs as packets
pub use Rattle.state_spec.specs as state_spec
pub use Rattle.evidence_spec.specs as evidence_spec
pub use Rattle.evidence_spec.specs.replay_spec as replay_spec
pub mod Refusals
pub mod Events
pub mod Replies
pub mod Pairs
pub mod Starting
pub mod Watched
pub mod Steps
pub mod Whose
pub mod Limits
pub mod Done
pub mod Standing
pub mod Exposing
pub mod Owing
pub mod Histories
pub mod Premises
pub mod Contract
pub mod Laws
pub mod ContractLaws
