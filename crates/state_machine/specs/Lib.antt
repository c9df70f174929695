pub use Rattle.file_texts.specs as file_texts
pub use Rattle.service.specs as service
pub use Rattle.state_spec.specs as state_spec
pub use Rattle.state_spec.specs.server_spec as server_spec
pub mod States
pub mod Stages
pub mod KeptState
pub mod Machines
