use Rattle.std.proofs.Common.{◌≡◌, ◌++◌, take, drop}
use Rattle.watching.specs.Ends.{with_end}
use Rattle.watching.proofs.ends.put_end.Given as goal

abbrev pub invariant-loop-place : goal.invariant-loop-place
invariant-loop-place l =
    take l.place l.ends ++ with_end (drop l.place l.members) l.node l.number (drop l.place l.ends)
    ≡ with_end l.members l.node l.number l.initial.ends
