use Rattle.witness_laws.proofs.OfAnswers.Answering.{answers}
use Rattle.witness_laws.proofs.answers.laws.answers_are_accepted.Goals as goal

-- the law
pub returns : goal.returns
returns c = λ g w history log first last s closing roster is from node version stage part may place signed.
    answers g w history is from log first last s closing node version stage part may place signed
