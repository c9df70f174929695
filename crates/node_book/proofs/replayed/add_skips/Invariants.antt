use Rattle.std.proofs.Common.{◌≡◌, ◌++◌}
use Rattle.node_book.specs.Shown.{counts_of}
use Rattle.node_book.proofs.replayed.add_skips.Given as goal

abbrev pub invariant-loop-place : goal.invariant-loop-place
invariant-loop-place l = l.out.items ≡ l.initial.out.items ++ counts_of l.skips l.place
