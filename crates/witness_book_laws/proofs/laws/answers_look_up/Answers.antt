use Rattle.witness_book_laws.proofs.Answers.{answer_looked_up}
use Rattle.witness_book_laws.proofs.laws.answers_look_up.Goals as goal

pub returns : goal.returns
returns c = λ b s last fits one hidden wanted. answer_looked_up b s last fits one hidden wanted
