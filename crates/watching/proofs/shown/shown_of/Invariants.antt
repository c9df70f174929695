use Rattle.std.proofs.Common.{◌≡◌, drop}
use Rattle.watching.specs.Shown.{shown_in}
use Rattle.watching.proofs.shown.shown_of.Given as goal

abbrev pub invariant-loop-place : goal.invariant-loop-place
invariant-loop-place l = shown_in (drop l.place l.members) l.node (drop l.place l.shown)
    ≡ shown_in l.members l.node l.shown
