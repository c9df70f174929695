use Rattle.node_book.specs.Events.{event_in}
use Rattle.node_book.specs.Replies.{reply_in}
use Rattle.witness_books.proofs.books.Books.make_noted_step.Goals as goal

-- two notes of the event and two of its reply are two notes of both
pub returns-in-Ok-clause-notes : goal.returns-in-Ok-clause-notes
returns-in-Ok-clause-notes c =
    c.notes_of.ensures (event_in c.args.event) (reply_in c.step_noting-reply.result.0) c.in-Ok.ensures.one
    c.in-Ok.ensures.two c.step_noting-reply.ensures.notes
