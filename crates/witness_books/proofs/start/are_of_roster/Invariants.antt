use Rattle.std.proofs.Common.{map, take}
use Rattle.std.specs.List.{AllByRecursion}
use Rattle.node_book.specs.Rows.{known_in}
use Rattle.node_book.specs.witness_spec.Starting.{IsOfSome}
use Rattle.witness_books.specs.Starts.{AreOfRoster, handed}
use Rattle.witness_books.proofs.start.are_of_roster.Given as goal

abbrev pub invariant-loop-base : goal.invariant-loop-base
invariant-loop-base l =
    AreOfRoster l.roster (map (λ c. handed c.value c.member) (take l.base-index l.bases))
    × AllByRecursion (IsOfSome l.roster) (map (λ c. known_in c.value) (take l.base-index l.bases))
