use Rattle.witness_laws.proofs.OfBooks.Standing.{found_stands}
use Rattle.witness_laws.proofs.OfBooks.Telling.{book_tells, tell_same}
use Rattle.witness_laws.proofs.books.books_tell.Goals as goal

pub returns-clause-owed : goal.returns-clause-owed
returns-clause-owed c = λ g w books b history q reply is from h stand there.
    book_tells g w b history q reply is from h (found_stands g w history from books b is stand there)

pub returns-clause-same : goal.returns-clause-same
returns-clause-same c = tell_same
