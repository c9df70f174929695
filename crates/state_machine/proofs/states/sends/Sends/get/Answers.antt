use Rattle.std.proofs.Common.{sym, ap, ◌∙◌}
use Rattle.std.specs.FinMap.{get}
use Rattle.state_machine.proofs.OfStates.Kept.{get_of_map}
use Rattle.state_machine.proofs.states.sends.Sends.get.Goals as goal

-- what the ordered map has under the number
pub returns : goal.returns
returns c =
    c.copied.ensures ∙ c.get.ensures.value
    ∙ sym (get_of_map c.self.inside.messages.entries c.args.seq c.self.invariant.rising)
    ∙ ap (λ m. get m c.args.seq) c.self.view_is
