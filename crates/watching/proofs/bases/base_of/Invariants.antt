use Rattle.std.proofs.Common.{◌≡◌, drop}
use Rattle.witness_books.specs.Books.{bases_in}
use Rattle.witness_books.specs.Starts.{base_at}
use Rattle.watching.proofs.bases.base_of.Given as goal

abbrev pub invariant-loop-place : goal.invariant-loop-place
invariant-loop-place l =
    base_at (bases_in l.bases) l.node ≡ base_at (bases_in (drop l.place l.bases)) l.node
