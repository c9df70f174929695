pub use Rattle.state_machine.specs.service as service
pub use Rattle.state_machine.specs as state_machine
pub use Rattle.state_machine.specs.state_spec as state_spec
pub mod Trees
pub mod Parts
pub mod Fronts
pub mod PartWorlds
pub mod ErrorNumbers
pub mod SharedStates
