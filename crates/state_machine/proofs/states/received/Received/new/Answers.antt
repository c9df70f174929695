use Rattle.std.proofs.Common.{ap, ◌∙◌}
use Rattle.state_spec.specs.State.{received_cmp}
use Rattle.state_spec.specs.StateValues.{set_from}
use Rattle.state_machine.proofs.OfStates.Kept.{set_of_none}
use Rattle.state_machine.proofs.states.received.Received.new.Goals as goal

-- an empty set has no messages
pub returns : goal.returns
returns c = ap (set_from received_cmp) c.new.ensures.empty ∙ set_of_none received_cmp
