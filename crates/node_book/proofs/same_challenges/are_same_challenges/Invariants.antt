use Rattle.std.proofs.Common.{◌≡◌, ◌↔◌, drop}
use Rattle.node_book.proofs.same_challenges.are_same_challenges.Given as goal

abbrev pub invariant-loop-place : goal.invariant-loop-place
invariant-loop-place l = (drop l.place l.own ≡ drop l.place l.others) ↔ (l.own ≡ l.others)
