use Rattle.std.proofs.Common.{◌<◌, ◌≤◌, ℕ}
use Rattle.host_keys.specs.Rosters.{IsIn}
use Rattle.host_keys.proofs.member_lines.lacking_at.Given as goal

abbrev pub invariant-loop-node : goal.invariant-loop-node
invariant-loop-node l = (n : ℕ) → 1 ≤ n → n < l.node → IsIn l.lines l.epoch n
