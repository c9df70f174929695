use Rattle.std.proofs.Common.{◌≡◌, drop}
use Rattle.watching.specs.Ends.{end_in}
use Rattle.watching.proofs.ends.end_of.Given as goal

abbrev pub invariant-loop-place : goal.invariant-loop-place
invariant-loop-place l = end_in (drop l.place l.members) l.node (drop l.place l.ends)
    ≡ end_in l.members l.node l.ends
