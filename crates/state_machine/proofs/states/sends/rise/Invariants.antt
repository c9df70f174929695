use Rattle.std.proofs.Common.{◌≡◌, ℕ, ◌+◌, ◌<◌, get_or, Less}
use Rattle.std.specs.Ordering.{nat_cmp}
use Rattle.std.specs.Map.{keys_of}
use Rattle.state_machine.specs.States.Numbered.{numbered}
use Rattle.state_machine.proofs.states.sends.rise.Given as goal

abbrev pub invariant-loop-at : goal.invariant-loop-at
invariant-loop-at l =
    (k d : ℕ) → k + 1 < l.at → nat_cmp (get_or (keys_of (numbered l.messages)) k d)
    (get_or (keys_of (numbered l.messages)) (k + 1) d) ≡ Less
