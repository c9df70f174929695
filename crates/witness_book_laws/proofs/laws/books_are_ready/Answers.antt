use Rattle.witness_book_laws.proofs.Ready.{first_ready, ready_step, ready_at, of_log}
use Rattle.witness_book_laws.proofs.laws.books_are_ready.Goals as goal

pub returns-clause-starting : goal.returns-clause-starting
returns-clause-starting c = first_ready

pub returns-clause-step : goal.returns-clause-step
returns-clause-step c = ready_step

pub returns-clause-ready : goal.returns-clause-ready
returns-clause-ready c = ready_at

pub returns-clause-of_log : goal.returns-clause-of_log
returns-clause-of_log c = of_log
