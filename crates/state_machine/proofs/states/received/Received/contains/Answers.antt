use Rattle.std.proofs.Common.{sym, ap, ◌∙◌}
use Rattle.state_spec.specs.State.{received_cmp, is_received}
use Rattle.state_machine.proofs.OfStates.Kept.{has_key}
use Rattle.state_machine.proofs.states.received.Received.contains.Goals as goal

-- the ordered set has the message exactly where it was received
pub returns : goal.returns
returns c =
    c.contains.ensures
    ∙ sym (has_key received_cmp c.self.inside.messages.keys c.args.message.now c.self.invariant.rising)
    ∙ ap (λ s. is_received s c.args.message.now) c.self.view_is
