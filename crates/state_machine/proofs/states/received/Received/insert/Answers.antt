use Rattle.std.proofs.Common.{◌<◌, length, sym, ap, subst, ◌∙◌, arith}
use Rattle.std.specs.FinMap.{len}
use Rattle.std.specs.List.{AllByRecursion}
use Rattle.state_spec.specs.State.{received_cmp, with_received}
use Rattle.state_machine.specs.States.Bounds.{ReceivedFits}
use Rattle.state_machine.specs.declared.states.received.TheConstants.{MAX_RECEIVED}
use Rattle.state_spec.proofs.Orders.{received_total}
use Rattle.state_machine.proofs.OfStates.Kept.{len_of_set, one_within, set_with, all_with}
use Rattle.state_machine.proofs.states.received.Received.insert.Goals as goal

pub invariant_of-self-2 : goal.invariant_of-self-2
invariant_of-self-2 c =
    let count =
    sym (len_of_set received_cmp c.self.inside.messages.keys c.self.invariant.rising)
    ∙ ap len c.self.view_is in
    let below : length c.self.inside.messages.keys < MAX_RECEIVED = omega (arith, count, c.requires) in
    record {
      few =
          one_within c.in_ok-insert.field-0 (length c.self.inside.messages.keys) _ MAX_RECEIVED
          c.in_ok-insert.ensures.len below;
      rising = c.in_ok-insert.ensures.ordered;
      bounded = subst (AllByRecursion ReceivedFits) (sym c.in_ok-insert.ensures.keys)
          (all_with received_cmp ReceivedFits c.self.inside.messages.keys c.args.message
          c.self.invariant.bounded c.is_bounded.ensures);
    }

pub returns-clause-ok : goal.returns-clause-ok
returns-clause-ok c =
    set_with received_cmp received_total c.self.inside.messages.keys c.insert.new.self.keys c.args.message
    c.self.invariant.rising c.in_ok-insert.ensures.ordered c.in_ok-insert.ensures.keys
    ∙ ap (λ s. with_received s c.args.message) c.self.view_is
