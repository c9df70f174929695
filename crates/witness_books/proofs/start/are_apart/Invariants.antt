use Rattle.std.proofs.Common.{◌↔◌, map, drop}
use Rattle.node_book.specs.Rows.{known_in}
use Rattle.witness_books.specs.Starts.{AreApart}
use Rattle.witness_books.proofs.start.are_apart.Given as goal

abbrev pub invariant-loop-place : goal.invariant-loop-place
invariant-loop-place l =
    AreApart (map (λ c. known_in c.value) l.bases)
    ↔ AreApart (map (λ c. known_in c.value) (drop l.place l.bases))
