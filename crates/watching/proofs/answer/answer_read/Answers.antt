use Rattle.watching.proofs.OfAnswering.{is_done}
use Rattle.watching.proofs.answer.answer_read.Goals as goal

pub returns-in-Ok-clause-answers : goal.returns-in-Ok-clause-answers
returns-in-Ok-clause-answers c = is_done _ _ _ _ _ _ c.in-Ok.ensures.done
