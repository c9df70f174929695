use Rattle.server_spec.proofs.Answering.{one_answer}
use Rattle.server_spec.proofs.laws.one_answer.Goals as goal

-- the law
pub returns : goal.returns
returns c = one_answer
