-- Bytes and the event that they spell are taken alike.
use Rattle.node_book.specs.witness_spec.Events as events
use Rattle.witness_books.proofs.Delivering.{spelled_alike, alike_spelled, owed_alike, taken_alike}
use Rattle.witness_books.proofs.laws.spelled_is_taken.Goals as goal

pub returns-clause-whose : goal.returns-clause-whose
returns-clause-whose c ms bytes event spell = (spelled_alike ms bytes event spell).whose_is

pub returns-clause-owed : goal.returns-clause-owed
returns-clause-owed c g bytes event history reply spell = (
  owed_alike g (events.Deliver bytes) event (spelled_alike g.roster bytes event spell) history reply,
  owed_alike g event (events.Deliver bytes) (alike_spelled g.roster bytes event spell) history reply,
)

pub returns-clause-taken : goal.returns-clause-taken
returns-clause-taken c g old new bytes event reply is_bytes is_event spell =
    let one = spelled_alike g.roster bytes event spell in
    let two = alike_spelled g.roster bytes event spell in (
      taken_alike g (events.Deliver bytes) event one old new reply is_event,
      taken_alike g event (events.Deliver bytes) two old new reply is_bytes,
    )
