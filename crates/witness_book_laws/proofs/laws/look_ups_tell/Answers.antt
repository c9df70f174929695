use Rattle.witness_book_laws.proofs.LookUps.{shown_by_look_up, fork_by_look_up}
use Rattle.witness_book_laws.proofs.AllBooks.{kept_one_hash}
use Rattle.witness_book_laws.proofs.laws.look_ups_tell.Goals as goal

pub returns-clause-one : goal.returns-clause-one
returns-clause-one c = kept_one_hash

pub returns-clause-tell : goal.returns-clause-tell
returns-clause-tell c = λ b number x fits one hidden. (
  shown_by_look_up b fits number one hidden x,
  fork_by_look_up b fits number one hidden x,
)
