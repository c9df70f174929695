use Rattle.std.proofs.Common.{◌≡◌, length}
use Rattle.watching.specs.Segments.{is_asked}
use Rattle.watching.proofs.bound.is_among.Given as goal

abbrev pub invariant-loop-rest : goal.invariant-loop-rest
invariant-loop-rest l = is_asked l.rest l.node ≡ is_asked l.nodes l.node

abbrev pub decreases-loop-rest : goal.decreases-loop-rest
decreases-loop-rest l = length l.rest
