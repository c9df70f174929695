use Rattle.std.proofs.Common.{vec_len}
use Rattle.witness_calls.specs.Telling.{Extends}
use Rattle.witness_calls.proofs.caller.Caller.put_back_each.Given as goal

abbrev pub invariant-loop-job : goal.invariant-loop-job
invariant-loop-job g l = Extends l.fn.self l.self

abbrev pub decreases-loop-job : goal.decreases-loop-job
decreases-loop-job g l = vec_len l.jobs
