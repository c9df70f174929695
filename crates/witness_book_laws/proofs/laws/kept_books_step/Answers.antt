use Rattle.witness_book_laws.proofs.AllBooks.{kept_step, first_kept}
use Rattle.witness_book_laws.proofs.laws.kept_books_step.Goals as goal

pub returns-clause-starting : goal.returns-clause-starting
returns-clause-starting c = first_kept

pub returns-clause-step : goal.returns-clause-step
returns-clause-step c = kept_step
