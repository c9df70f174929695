use Rattle.std.proofs.Common.{◌≡◌, drop}
use Rattle.witness_books.specs.Places.{place_from}
use Rattle.witness_books.proofs.books.place_of.Given as goal

abbrev pub invariant-loop-place : goal.invariant-loop-place
invariant-loop-place l = place_from 0 l.members l.node ≡ place_from l.place (drop l.place l.members) l.node
