use Rattle.std.proofs.Common.{◌≡◌, ◌++◌, drop, take}
use Rattle.witness_process.specs.Answered.{books_of, with_books}
use Rattle.witness_process.specs.declared.overlap.NodeBooks.{NodeBooks}
use Rattle.witness_process.proofs.sets.place_of.Given as goal

abbrev pub invariant-loop-place : goal.invariant-loop-place
invariant-loop-place l =
    (books_of l.node l.own ≡ books_of l.node (drop l.place l.own))
    × ((left : NodeBooks) → left.node ≡ l.node
    → with_books left l.own ≡ take l.place l.own ++ with_books left (drop l.place l.own))
