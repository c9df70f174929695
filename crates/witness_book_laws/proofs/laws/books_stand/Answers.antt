use Rattle.witness_book_laws.proofs.Histories.{own_known}
use Rattle.witness_book_laws.proofs.Standing.{stand}
use Rattle.witness_book_laws.proofs.laws.books_stand.Goals as goal

pub returns-clause-one : goal.returns-clause-one
returns-clause-one c = λ g w history is from h. (own_known g w history is from h).of

pub returns-clause-all : goal.returns-clause-all
returns-clause-all c = stand
