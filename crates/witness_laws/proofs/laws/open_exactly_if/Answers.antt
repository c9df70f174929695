use Rattle.witness_laws.proofs.OfAnswers.Unanswered as proof
use Rattle.witness_laws.proofs.laws.open_exactly_if.Goals as goal

pub returns : goal.returns
returns c = proof.open_exactly_if
