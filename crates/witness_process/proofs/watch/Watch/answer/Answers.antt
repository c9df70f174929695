use Rattle.witness_process.proofs.OfAnswers.{by_sets}
use Rattle.witness_process.proofs.watch.Watch.answer.Goals as goal

pub returns-clause-answer : goal.returns-clause-answer
returns-clause-answer c = by_sets _ _ _ _ _ _ c.answer-outcome.ensures
