use Rattle.std.proofs.Common.{arith}
use Rattle.std.proofs.lemmas.Grind.{common_steps}
use Rattle.node_book.proofs.Shown.{entries_are, entries_within}
use Rattle.node_book.proofs.replayed.count_entries.Goals as goal

-- the entries so far are no more than all
pub overflow_add-count : goal.overflow_add-count
overflow_add-count c =
    grind (
      arith,
      common_steps,
      entries_within c.args.segments.now c.loop-segment.segment-index c.segment-item.result
          c.loop-segment-test.true c.segment-item.is,
    )

-- all were counted
pub returns : goal.returns
returns c = grind (arith, common_steps, entries_are c.args.segments.now)
