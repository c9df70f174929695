use Rattle.std.proofs.Common.{◌+◌, ◌≤◌}
use Rattle.std.specs.Prelude.{vec_capacity, vec_len}
use Rattle.std.specs.Vec.Iter.{into_iter_items, into_iter_len}
use Rattle.witness_books.proofs.Running.{HasRun}
use Rattle.witness_books.proofs.runs.run_all.Given as goal

abbrev pub invariant-steps : goal.invariant-steps
invariant-steps l = record {
  run : HasRun l.fn.books l.fn.events.items (into_iter_items l.rest) l.replies.items l.books;
  room : vec_len l.replies + into_iter_len l.rest ≤ vec_capacity l.replies;
}

abbrev pub decreases-steps : goal.decreases-steps
decreases-steps l = into_iter_len l.rest
