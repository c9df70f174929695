use Rattle.std.proofs.Common.{vec_len}
use Rattle.witness_calls.specs.Telling.{Extends}
use Rattle.witness_calls.proofs.caller.Caller.file_each.Given as goal

abbrev pub invariant-loop-back : goal.invariant-loop-back
invariant-loop-back g l = Extends l.fn.self l.self

abbrev pub decreases-loop-back : goal.decreases-loop-back
decreases-loop-back g l = vec_len l.backs
