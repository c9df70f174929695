use Rattle.std.proofs.Common.{◌≤◌, ◌-◌, ◌^◌, ℕ}
use Rattle.std.specs.List.{AllByRecursion}
use Rattle.host_keys.specs.Rosters.{IsIn}
use Rattle.host_keys.proofs.member_lines.lacking_in.Given as goal

-- all epochs so far are complete
abbrev pub invariant-loop-next : goal.invariant-loop-next
invariant-loop-next l =
    AllByRecursion (λ line. line.epoch ≤ l.epoch → (node : ℕ) → IsIn l.lines line.epoch node) l.lines

abbrev pub decreases-loop-next : goal.decreases-loop-next
decreases-loop-next l = 2 ^ 32 - l.epoch
