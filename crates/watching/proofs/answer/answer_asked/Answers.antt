use Rattle.std.proofs.Common.{refl}
use Rattle.watching.proofs.OfAnswering.{replies_refused}
use Rattle.watching.proofs.answer.answer_asked.Goals as goal

pub returns-in-Err-clause-answers : goal.returns-in-Err-clause-answers
returns-in-Err-clause-answers c = replies_refused _ _ _ _ _ _ _ _ refl c.in-Err.ensures c.replied.ensures
