use Rattle.witness_laws.proofs.OfBooks.Standing.{one_book, found}
use Rattle.witness_laws.proofs.OfBooks.Telling.{same_book}
use Rattle.witness_laws.proofs.books.one_book_is_enough.Goals as goal

pub returns-clause-step : goal.returns-clause-step
returns-clause-step c = one_book

pub returns-clause-alone : goal.returns-clause-alone
returns-clause-alone c = same_book

pub returns-clause-each : goal.returns-clause-each
returns-clause-each c = λ g w books history is from stand.
    found g w history from books is stand
