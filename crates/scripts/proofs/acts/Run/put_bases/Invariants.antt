use Rattle.std.proofs.Common.{◌≡◌}
use Rattle.scripts.proofs.acts.Run.put_bases.Given as goal

-- nothing is asked of the witness
abbrev pub invariant-loop-place : goal.invariant-loop-place
invariant-loop-place g l = record {
  same : l.self.caller ≡ l.fn.self.caller;
}
