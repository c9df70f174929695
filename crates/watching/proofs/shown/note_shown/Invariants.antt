use Rattle.std.proofs.Common.{◌≡◌, ◌++◌, take, drop}
use Rattle.watching.specs.Shown.{with_shown}
use Rattle.watching.proofs.shown.note_shown.Given as goal

abbrev pub invariant-loop-place : goal.invariant-loop-place
invariant-loop-place l =
    (l.shown ≡ l.initial.shown)
    × (take l.place l.shown ++ with_shown (drop l.place l.members) l.authenticator (drop l.place l.shown)
    ≡ with_shown l.members l.authenticator l.initial.shown)
