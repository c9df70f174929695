use Rattle.std.proofs.Common.{sym, ap, subst, ◌∙◌}
use Rattle.std.specs.List.{AllByRecursion}
use Rattle.std.specs.BTreeSet.{insert_key}
use Rattle.state_spec.specs.State.{received_cmp}
use Rattle.state_machine.specs.States.Bounds.{ReceivedFits}
use Rattle.state_spec.proofs.Orders.{received_total}
use Rattle.state_machine.proofs.OfStates.Kept.{next_put, all_with}
use Rattle.state_machine.proofs.states.received.set_of.Goals as goal

pub loop-message-preserved : goal.loop-message-preserved
loop-message-preserved c = (
  c.in_ok-insert.ensures.keys
      ∙ ap (λ ks. insert_key received_cmp ks c.message-item.result) c.loop-message.invariant.0
      ∙ next_put received_total c.args.messages.now c.loop-message.message-index c.message-item.result
      c.loop-message-test.true c.message-item.is c.requires,
  subst (AllByRecursion ReceivedFits) (sym c.in_ok-insert.ensures.keys)
      (all_with received_cmp ReceivedFits c.loop-message.set.keys c.message-item.result
      c.loop-message.invariant.1 c.is_bounded.ensures),
)
