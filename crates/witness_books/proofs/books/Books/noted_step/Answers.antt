-- A noted step is a step where memory was enough.
use Rattle.node_book.specs.Events.{event_in}
use Rattle.node_book.specs.Replies.{reply_in}
use Rattle.witness_books.specs.Books.{beginning_of, parts_in}
use Rattle.witness_books.proofs.Noting.{noted_keeps}
use Rattle.witness_books.proofs.books.Books.noted_step.Goals as goal

-- so it keeps the headline, as each step does
pub returns-clause-headline : goal.returns-clause-headline
returns-clause-headline c enough =
    noted_keeps c.steps_keep_the_headline.ensures (beginning_of c.args.self.now) (parts_in c.args.self.now)
    (parts_in c.make_noted_step.new.self) (event_in c.args.event) (reply_in c.make_noted_step.result.0)
    c.make_noted_step.ensures.noted enough
