use Rattle.std.proofs.Common.{[], sym, arith}
use Rattle.state_spec.specs.State.{ReceivedMessage, received_cmp}
use Rattle.state_spec.proofs.Orders.{received_total}
use Rattle.state_machine.proofs.OfStates.Kept.{rising_by_steps, one_step_more, no_step}
use Rattle.state_machine.proofs.states.received.rise.Goals as goal

none : ReceivedMessage
none = record { from = 0; seq = 0; hash = [] }

-- each message is before the next, so the list is strictly sorted
pub returns : goal.returns
returns c =
    rising_by_steps received_total c.args.messages.now none
    (λ k lt. c.loop-at.invariant k none (omega (arith, lt)))

pub loop-at-preserved : goal.loop-at-preserved
loop-at-preserved c =
    one_step_more received_cmp c.args.messages.now c.loop-at.at c.index-messages-at.result
    c.index-messages-at-in-loop-at.result c.loop-at.auto.at c.loop-at-test.true c.index-messages-at.is
    c.index-messages-at-in-loop-at.is (sym (c.if-not-is_before.ensures)) c.loop-at.invariant

pub loop-at-init : goal.loop-at-init
loop-at-init c = λ k d lt. absurd (omega arith)

pub returns-then-not-is_before : goal.returns-then-not-is_before
returns-then-not-is_before c =
    no_step received_cmp c.args.messages.now c.loop-at.at c.index-messages-at.result
    c.index-messages-at-in-loop-at.result c.loop-at.auto.at c.loop-at-test.true c.index-messages-at.is
    c.index-messages-at-in-loop-at.is (sym (c.if-not-is_before.ensures))
