use Rattle.witness_calls.specs.Telling.{Extends}
use Rattle.scripts.proofs.acts.Run.deliver_often.Given as goal

-- each packet so far added to the claims
abbrev pub invariant-loop : goal.invariant-loop
invariant-loop g l = Extends l.fn.self.caller l.self.caller
