use Rattle.witness_calls.proofs.Extending.{kept_extends}
use Rattle.witness_calls.proofs.caller.Caller.file.Goals as goal

pub returns-after-of : goal.returns-after-of
returns-after-of g c = kept_extends _ _ _ _ c.step.ensures
