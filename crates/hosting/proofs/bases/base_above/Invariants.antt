use Rattle.std.proofs.Common.{◌-◌, ◌<◌, ◌≤◌, ℕ}
use Rattle.hosting.specs.BaseGiving.{HasNone}
use Rattle.hosting.proofs.bases.base_above.Given as goal

-- no base was given up to here
abbrev pub invariant-loop-number : goal.invariant-loop-number
invariant-loop-number l = record {
  past : l.fn.after ≤ l.number;
  none : (k : ℕ) → l.fn.after < k → k ≤ l.number → HasNone l.fn.server k;
}

abbrev pub decreases-loop-number : goal.decreases-loop-number
decreases-loop-number l = l.last - l.number
