use Rattle.witness_calls.proofs.Extending.{kept_extends}
use Rattle.witness_calls.proofs.caller.Caller.put_back.Goals as goal

pub returns : goal.returns
returns g c = kept_extends _ _ _ _ c.step.ensures
