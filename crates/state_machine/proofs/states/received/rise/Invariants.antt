use Rattle.std.proofs.Common.{◌≡◌, ℕ, ◌+◌, ◌<◌, get_or, Less}
use Rattle.state_spec.specs.State.{ReceivedMessage, received_cmp}
use Rattle.state_machine.proofs.states.received.rise.Given as goal

abbrev pub invariant-loop-at : goal.invariant-loop-at
invariant-loop-at l =
    (k : ℕ) (d : ReceivedMessage) → k + 1 < l.at
    → received_cmp (get_or l.messages k d) (get_or l.messages (k + 1) d) ≡ Less
