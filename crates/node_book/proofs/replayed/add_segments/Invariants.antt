use Rattle.std.proofs.Common.{flat_map, take}
use Rattle.node_book.specs.Shown.{IsShown}
use Rattle.node_book.proofs.replayed.add_segments.Given as goal

abbrev pub invariant-loop-segment : goal.invariant-loop-segment
invariant-loop-segment l = IsShown l.shown (flat_map (λ c. c.segment.entries) (take l.segment-index l.segments))
