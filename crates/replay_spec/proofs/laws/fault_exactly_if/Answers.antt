use Rattle.replay_spec.proofs.Runs.{first_fault, is_fault}
use Rattle.replay_spec.proofs.laws.fault_exactly_if.Goals as goal

-- both ways
pub returns : goal.returns
returns c = λ ms s ps fault number. (first_fault ms s ps fault number, is_fault ms s ps fault number)
