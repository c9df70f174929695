use Rattle.witness_laws.proofs.OfBooks.Runs.{in_turn, no_run, one_more, from_start, agree}
use Rattle.witness_laws.proofs.books.runs_are_histories.Goals as goal

pub returns-clause-steps : goal.returns-clause-steps
returns-clause-steps c = in_turn

pub returns-clause-none : goal.returns-clause-none
returns-clause-none c = no_run

pub returns-clause-more : goal.returns-clause-more
returns-clause-more c = one_more

pub returns-clause-starting : goal.returns-clause-starting
returns-clause-starting c = from_start

pub returns-clause-agree : goal.returns-clause-agree
returns-clause-agree c = agree
