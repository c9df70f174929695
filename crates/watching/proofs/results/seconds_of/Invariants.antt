use Rattle.std.proofs.Common.{◌≡◌, length}
use Rattle.watching.specs.Answers.{seconds_of}
use Rattle.watching.proofs.results.seconds_of.Given as goal

abbrev pub invariant-loop-rest : goal.invariant-loop-rest
invariant-loop-rest l = seconds_of l.time l.rest l.node ≡ seconds_of l.time l.opened l.node

abbrev pub decreases-loop-rest : goal.decreases-loop-rest
decreases-loop-rest l = length l.rest
