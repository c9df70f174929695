use Rattle.std.proofs.Common.{List, ap}
use Rattle.witness_book_laws.specs.Books.{book_starting, parts_of}
use Rattle.witness_book_laws.proofs.Histories.{at_first, first_pairs}
use Rattle.witness_book_laws.proofs.AnyBook.{any_stands}
use Rattle.witness_book_laws.proofs.laws.equations_keep_the_contract.Goals as goal
use Rattle.witness_laws.specs.witness_spec.Pairs.{Pair}

-- whatever the history, the book is the member's after its own steps
pub returns-clause-step : goal.returns-clause-step
returns-clause-step c = λ w b event step reply is fits member e its owes g history from h stands.
    any_stands g w history b is from h fits (record { of_member = member; stands = stands }) event step reply e
    its owes

pub returns-clause-starting : goal.returns-clause-starting
returns-clause-starting c = λ w is. (
  ap (λ (ps : List Pair). record (parts_of (book_starting w.member w.base)) { pairs = ps }) (first_pairs w.base),
  (at_first w is).fits,
)
