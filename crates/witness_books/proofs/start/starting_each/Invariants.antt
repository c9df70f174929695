use Rattle.std.proofs.Common.{◌≡◌, map, take}
use Rattle.node_book.specs.witness_book_laws.Books.{book_starting}
use Rattle.witness_books.specs.Books.{bases_in}
use Rattle.witness_books.specs.Starts.{base_at}
use Rattle.witness_books.proofs.start.starting_each.Given as goal

abbrev pub invariant-loop-member : goal.invariant-loop-member
invariant-loop-member l =
    l.books.items
    ≡ map (λ m. book_starting m (base_at (bases_in l.bases) m.node)) (take l.member-index l.members)
