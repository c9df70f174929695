use Rattle.witness_laws.proofs.OfBooks.Runs.{books_after, owed_to}
use Rattle.witness_laws.proofs.books.steps_keep_books.Goals as goal

pub returns-clause-kept : goal.returns-clause-kept
returns-clause-kept c = books_after

pub returns-clause-owed : goal.returns-clause-owed
returns-clause-owed c = owed_to
