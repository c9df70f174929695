use Rattle.std.proofs.Common.{sym, ap, ◌∙◌}
use Rattle.std.specs.FinMap.{len}
use Rattle.state_spec.specs.State.{received_cmp}
use Rattle.state_machine.proofs.OfStates.Kept.{len_of_set}
use Rattle.state_machine.proofs.states.received.Received.len.Goals as goal

pub returns-clause-count : goal.returns-clause-count
returns-clause-count c =
    c.len.ensures.len ∙ sym (len_of_set received_cmp c.self.inside.messages.keys c.self.invariant.rising)
    ∙ ap len c.self.view_is
