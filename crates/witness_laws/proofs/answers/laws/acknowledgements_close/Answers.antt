use Rattle.witness_laws.proofs.OfAnswers.Answering.{acknowledges}
use Rattle.witness_laws.proofs.answers.laws.acknowledgements_close.Goals as goal

-- the law
pub returns : goal.returns
returns c = λ g w history e a key is from key_is by there same.
    acknowledges g w history is from e a key key_is by there same
