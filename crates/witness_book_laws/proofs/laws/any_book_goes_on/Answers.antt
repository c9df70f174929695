use Rattle.witness_book_laws.proofs.AnyBook.{any_owes, any_goes_on}
use Rattle.witness_book_laws.proofs.laws.any_book_goes_on.Goals as goal

pub returns-clause-owes : goal.returns-clause-owes
returns-clause-owes c =
    λ g w history b step reply is from h fits of. any_owes g w history b is from h fits of step reply

pub returns-clause-goes_on : goal.returns-clause-goes_on
returns-clause-goes_on c = λ g w history b event step reply is from h fits of e its owes.
    any_goes_on g w history b is from h fits of event step reply e its owes
