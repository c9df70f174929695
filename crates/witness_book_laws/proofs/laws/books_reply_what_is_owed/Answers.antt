use Rattle.witness_book_laws.specs.Going.{book_after_steps}
use Rattle.witness_book_laws.proofs.Known.{exposed_same, owes_known}
use Rattle.witness_book_laws.proofs.Histories.{own_known}
use Rattle.witness_book_laws.proofs.Standing.{same_indication}
use Rattle.witness_book_laws.proofs.laws.books_reply_what_is_owed.Goals as goal
use Rattle.witness_laws.specs.witness_spec.Histories.{own_of}

pub returns-clause-owes : goal.returns-clause-owes
returns-clause-owes c = λ g w history step reply is from h.
    owes_known w (own_of w history) (book_after_steps w (own_of w history))
    (own_known g w history is from h) step reply

pub returns-clause-tells : goal.returns-clause-tells
returns-clause-tells c = λ g w history is from h.
    same_indication w (own_of w history) (book_after_steps w (own_of w history))
    (own_known g w history is from h)

pub returns-clause-evidence : goal.returns-clause-evidence
returns-clause-evidence c = λ g w history is from h.
    let k = own_known g w history is from h in
    exposed_same w (own_of w history) (book_after_steps w (own_of w history)) k.of k.exposure
