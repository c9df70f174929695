use Rattle.std.proofs.Common.{◌-◌, ◌<◌, length, Less, sym, ap, arith}
use Rattle.std.specs.Cmp.{nat_cmp_total, nat_cmp_is}
use Rattle.std.specs.Ordering.{nat_cmp, is_lt}
use Rattle.std.specs.Map.{keys_of}
use Rattle.std.proofs.lemmas.List.{get_or_default}
use Rattle.std.proofs.lemmas.Map.Keys.{below_from_sorted}
use Rattle.state_machine.specs.declared.states.texts.NumberedSend.{NumberedSend}
use Rattle.state_machine.specs.States.Numbered.{numbered}
use Rattle.state_machine.proofs.OfStates.Kept.{rising_by_steps, one_step_more}
use Rattle.state_machine.proofs.OfStates.NumberedMessages.{seq_at, length-numbers}
use Rattle.state_machine.proofs.states.sends.rise.Goals as goal

-- each number is below the next, so the list is strictly sorted
pub returns : goal.returns
returns c =
    let count = length-numbers c.args.messages.now in
    rising_by_steps nat_cmp_total (keys_of (numbered c.args.messages.now)) 0
    (λ k lt. c.loop-at.invariant k 0 (omega (arith, lt, count)))

pub loop-at-preserved : goal.loop-at-preserved
loop-at-preserved c =
    let before = c.index-messages-at.result in
    let next = c.index-messages-at-in-loop-at.result in
    let p = ap (λ (m : NumberedSend). m.seq) c.index-messages-at.is in
    let q = ap (λ (m : NumberedSend). m.seq) c.index-messages-at-in-loop-at.is in
    let lt : before.seq < next.seq = omega (arith, p, q, c.if-next-before.false) in
    let count = length-numbers c.args.messages.now in
    let within : c.loop-at.at < length (keys_of (numbered c.args.messages.now)) =
    omega (arith, count, c.loop-at-test.true) in
    one_step_more nat_cmp (keys_of (numbered c.args.messages.now)) c.loop-at.at before.seq next.seq
    c.loop-at.auto.at within
    (seq_at c.args.messages.now (c.loop-at.at - 1) before c.index-messages-at.is)
    (seq_at c.args.messages.now c.loop-at.at next c.index-messages-at-in-loop-at.is)
    (sym (ap is_lt (nat_cmp_is before.seq next.seq Less lt))) c.loop-at.invariant

pub loop-at-init : goal.loop-at-init
loop-at-init c = λ k d lt. absurd (omega arith)

pub returns-then-next-before : goal.returns-then-next-before
returns-then-next-before c = λ rising.
    let keys = keys_of (numbered c.args.messages.now) in
    let before = c.index-messages-at.result in
    let next = c.index-messages-at-in-loop-at.result in
    let p = ap (λ (m : NumberedSend). m.seq) c.index-messages-at.is in
    let q = ap (λ (m : NumberedSend). m.seq) c.index-messages-at-in-loop-at.is in
    let count = length-numbers c.args.messages.now in
    let within : c.loop-at.at < length (keys_of (numbered c.args.messages.now)) =
    omega (arith, count, c.loop-at-test.true) in
    let less =
    below_from_sorted keys (c.loop-at.at - 1) c.loop-at.at before.seq rising
    (omega (arith, c.loop-at.auto.at)) within in
    let same = get_or_default keys c.loop-at.at before.seq next.seq within in
    let one = seq_at c.args.messages.now (c.loop-at.at - 1) before c.index-messages-at.is in
    let two = seq_at c.args.messages.now c.loop-at.at next c.index-messages-at-in-loop-at.is in
    omega (arith, less, same, one, two, p, q, c.if-next-before.true)
