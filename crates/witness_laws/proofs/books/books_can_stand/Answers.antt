use Rattle.std.proofs.Common.{[]}
use Rattle.witness_laws.proofs.OfBooks.Standing.{starting_stand, said_stand}
use Rattle.witness_laws.proofs.books.books_can_stand.Goals as goal

pub returns-clause-starting : goal.returns-clause-starting
returns-clause-starting c = λ g.
    (record { history = []; is = tt; stands = starting_stand g }, starting_stand g)

pub returns-clause-any : goal.returns-clause-any
returns-clause-any c = said_stand
