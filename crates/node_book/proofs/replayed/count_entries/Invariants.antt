use Rattle.std.proofs.Common.{◌≡◌, flat_map, length, take}
use Rattle.node_book.proofs.replayed.count_entries.Given as goal

abbrev pub invariant-loop-segment : goal.invariant-loop-segment
invariant-loop-segment l =
    l.count ≡ length (flat_map (λ c. c.segment.entries) (take l.segment-index l.segments))
