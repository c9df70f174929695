use Rattle.std.proofs.Common.{◌≡◌, ◌==◌, map, drop}
use Rattle.std.specs.List.{list_any}
use Rattle.node_book.specs.Rows.{known_in}
use Rattle.node_book.specs.witness_spec.Starting.{node_of}
use Rattle.witness_books.proofs.start.has_node.Given as goal

abbrev pub invariant-loop-base : goal.invariant-loop-base
invariant-loop-base l =
    list_any (λ b. l.node == node_of b) (map (λ c. known_in c.value) l.bases)
    ≡ list_any (λ b. l.node == node_of b) (map (λ c. known_in c.value) (drop l.base-index l.bases))
