use Rattle.std.proofs.Common.{◌<◌, length, sym, ap, subst, ◌∙◌, arith}
use Rattle.std.specs.List.{AllByRecursion}
use Rattle.std.specs.BTreeMap.{insert_entry}
use Rattle.std.specs.Cmp.{nat_cmp_total}
use Rattle.std.specs.Ordering.{nat_cmp}
use Rattle.std.proofs.lemmas.List.{take_all}
use Rattle.state_machine.specs.States.Bounds.{SentFits}
use Rattle.state_machine.specs.States.Numbered.{numbered}
use Rattle.state_machine.proofs.OfStates.Kept.{next_entry_put, all_with_entry}
use Rattle.state_machine.proofs.OfStates.NumberedMessages.{entry_at, length-numbered}
use Rattle.state_machine.proofs.states.sends.map_of.Goals as goal

pub loop-sent-preserved : goal.loop-sent-preserved
loop-sent-preserved c =
    let sent = c.sent-item.result in
    let count = length-numbered c.args.messages.now in
    let within : c.loop-sent.sent-index < length (numbered c.args.messages.now) =
    omega (arith, count, c.loop-sent-test.true) in (
      c.in_ok-insert.ensures.entries
          ∙ ap (λ es. insert_entry nat_cmp es sent.seq sent.message) c.loop-sent.invariant.0
          ∙ next_entry_put nat_cmp_total
          (numbered c.args.messages.now) c.loop-sent.sent-index sent.seq sent.message within
          (entry_at c.args.messages.now c.loop-sent.sent-index sent c.sent-item.is) c.requires,
      subst (AllByRecursion SentFits) (sym c.in_ok-insert.ensures.entries)
          (all_with_entry SentFits nat_cmp c.loop-sent.map.entries sent.seq sent.message
          c.loop-sent.invariant.1 c.is_bounded.ensures (λ e held. (held.0, c.is_bounded.ensures.1))),
    )

pub returns-clause-entries : goal.returns-clause-entries
returns-clause-entries c =
    let count = length-numbered c.args.messages.now in
    c.loop-sent.invariant.0 ∙ take_all c.loop-sent.sent-index (numbered c.args.messages.now)
    (omega (arith, count, c.loop-sent-test.false))
