use Rattle.std.proofs.Common.{◌≡◌, map, take}
use Rattle.witness_books.specs.Books.{bases_in}
use Rattle.witness_books.specs.Starts.{base_at}
use Rattle.witness_spec.specs.Starting.{start_number}
use Rattle.watching.proofs.bases.first_ends.Given as goal

abbrev pub invariant-loop-member : goal.invariant-loop-member
invariant-loop-member l =
    l.ends.items ≡ map (λ m. start_number (base_at (bases_in l.bases) m.node)) (take l.member-index l.members)
