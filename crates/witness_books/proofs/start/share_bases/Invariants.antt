use Rattle.std.proofs.Common.{◌≡◌, ◌++◌, map}
use Rattle.std.specs.Vec.Iter.{into_iter_items, into_iter_len}
use Rattle.node_book.specs.Rows.{known_in}
use Rattle.witness_books.specs.Books.{bases_in}
use Rattle.witness_books.proofs.start.share_bases.Given as goal

abbrev pub invariant-bases : goal.invariant-bases
invariant-bases l =
    bases_in l.shared.items ++ map (λ c. known_in c.value) (into_iter_items l.rest)
    ≡ map (λ c. known_in c.value) l.fn.bases.items

abbrev pub decreases-bases : goal.decreases-bases
decreases-bases l = into_iter_len l.rest
