use Rattle.witness_laws.proofs.OfAnswers.Closing.{closes}
use Rattle.witness_laws.proofs.answers.laws.answers_close_challenges.Goals as goal

-- the law
pub returns : goal.returns
returns c = closes
