use Rattle.std.proofs.Common.{[]}
use Rattle.node_book.specs.witness_spec.Contract.{starting_books}
use Rattle.witness_books.proofs.laws.witnesses_agree.Goals as goal

-- runs from the books at first in which a member's steps are the same agree on it
pub returns : goal.returns
returns c = λ g h w new last events more replies others is from also run other same.
    c.runs_are_histories.ensures.agree g h w (starting_books g) (starting_books h) new last [] [] events more
    replies others is from also tt (c.books_can_stand.ensures.starting g).1 tt
    (c.books_can_stand.ensures.starting h).1 run other same
