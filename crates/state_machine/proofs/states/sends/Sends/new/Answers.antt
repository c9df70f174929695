use Rattle.std.proofs.Common.{ap, ◌∙◌}
use Rattle.std.specs.Ordering.{nat_cmp}
use Rattle.state_spec.specs.StateValues.{map_from}
use Rattle.state_machine.proofs.OfStates.Kept.{map_of_none}
use Rattle.state_machine.proofs.states.sends.Sends.new.Goals as goal

-- an empty map has no messages
pub returns : goal.returns
returns c = ap (map_from nat_cmp) c.new.ensures.empty ∙ map_of_none nat_cmp
