use Rattle.std.proofs.Common.{◌≡◌, ◌↔◌, drop}
use Rattle.authenticator.proofs.roster.same_members.Given as goal

abbrev pub invariant-loop-place : goal.invariant-loop-place
invariant-loop-place l = (drop l.place l.own ≡ drop l.place l.others) ↔ (l.own ≡ l.others)
