use Rattle.std.proofs.Common.{◌≡◌, ◌↔◌, drop}
use Rattle.evidence_showings.proofs.copies.are_same_links.Given as goal

abbrev pub invariant-loop-place : goal.invariant-loop-place
invariant-loop-place l = (drop l.place l.own ≡ drop l.place l.others) ↔ (l.own ≡ l.others)
