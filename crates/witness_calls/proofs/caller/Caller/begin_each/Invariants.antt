use Rattle.witness_calls.specs.Telling.{Extends}
use Rattle.witness_calls.proofs.caller.Caller.begin_each.Given as goal

abbrev pub invariant-loop-node : goal.invariant-loop-node
invariant-loop-node g l = Extends l.fn.self l.self
