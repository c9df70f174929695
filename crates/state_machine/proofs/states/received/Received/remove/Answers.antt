use Rattle.std.proofs.Common.{length, sym, ap, subst, ◌∙◌, arith}
use Rattle.std.specs.FinMap.{remove}
use Rattle.std.specs.List.{AllByRecursion}
use Rattle.state_spec.specs.State.{received_cmp}
use Rattle.state_machine.specs.States.Bounds.{ReceivedFits}
use Rattle.state_spec.proofs.Orders.{received_total}
use Rattle.state_machine.proofs.OfStates.Again.{received_exact}
use Rattle.state_machine.proofs.OfStates.Kept.{set_without, all_without_key, less_within}
use Rattle.state_machine.proofs.states.received.Received.remove.Goals as goal

pub invariant_of-self : goal.invariant_of-self
invariant_of-self c = record {
  few =
      let old = c.self.inside.messages.keys in
      let new = c.remove.new.self.keys in
      less_within c.remove.result (length old) (length new) _ c.remove.ensures.len c.self.invariant.few;
  rising = c.remove.ensures.ordered;
  bounded =
      subst (AllByRecursion ReceivedFits) (sym c.remove.ensures.keys)
      (all_without_key ReceivedFits _ c.self.inside.messages.keys c.self.invariant.bounded);
}

-- the ordered set without the message
pub returns : goal.returns
returns c =
    set_without received_cmp received_total received_exact c.self.inside.messages.keys c.remove.new.self.keys
    c.args.message.now c.self.invariant.rising c.remove.ensures.ordered c.remove.ensures.updates.0
    ∙ ap (λ s. remove s c.args.message.now) c.self.view_is
