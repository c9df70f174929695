use Rattle.nfs_spec.proofs.Answered.{call_answered}
use Rattle.nfs_spec.proofs.laws.calls_are_answered_by_their_procedures.Goals as goal

-- the law
pub returns : goal.returns
returns c = call_answered
