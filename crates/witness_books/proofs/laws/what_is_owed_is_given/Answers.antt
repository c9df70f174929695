-- What is owed is given.
use Rattle.node_book.specs.witness_spec.Events as events
use Rattle.node_book.specs.witness_spec.Replies.{Accepted, Closed}
use Rattle.witness_books.proofs.Given.{owed_alone}
use Rattle.witness_books.proofs.laws.what_is_owed_is_given.Goals as goal

pub returns-clause-given : goal.returns-clause-given
returns-clause-given c g old new history event owed reply is stands alone step =
    owed_alone g history event owed reply alone (step history is stands).0.1

pub returns-clause-answers : goal.returns-clause-answers
returns-clause-answers c g w old new history segment reply is stands answers step =
    owed_alone g history (events.Answer segment) Accepted reply answers.reply (step history is stands).0.1

pub returns-clause-acks : goal.returns-clause-acks
returns-clause-acks c g w old new history a key reply is stands closes step =
    owed_alone g history (events.AckIn a key) Closed reply closes.reply (step history is stands).0.1
