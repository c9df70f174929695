use Rattle.std.proofs.Common.{sym, ap, ◌∙◌}
use Rattle.std.specs.FinMap.{len}
use Rattle.std.specs.Ordering.{nat_cmp}
use Rattle.state_machine.proofs.OfStates.Kept.{len_of_map}
use Rattle.state_machine.proofs.states.sends.Sends.len.Goals as goal

pub returns-clause-count : goal.returns-clause-count
returns-clause-count c =
    c.len.ensures.len ∙ sym (len_of_map nat_cmp c.self.inside.messages.entries c.self.invariant.rising)
    ∙ ap len c.self.view_is
