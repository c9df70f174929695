-- What steps do to a state, re-exported from the definitions of states.
pub use Rattle.state_spec.specs.Steps.{having_received, having_sent, having_acknowledged, having_read}
pub use Rattle.state_spec.specs.Steps.{machine_at, at_stage, owing, answered, after_reading}
