-- A step keeps the headline, as a run of one event.
use Rattle.node_book.specs.Events.{event_in}
use Rattle.node_book.specs.Replies.{reply_in}
use Rattle.witness_books.specs.Books.{beginning_of, parts_in}
use Rattle.witness_books.proofs.books.Books.step.Goals as goal

pub returns-clause-headline : goal.returns-clause-headline
returns-clause-headline c =
    c.steps_keep_the_headline.ensures (beginning_of c.args.self.now) (parts_in c.args.self.now)
    (parts_in c.make_step.new.self) (event_in c.args.event) (reply_in c.make_step.result)
    c.make_step.ensures.steps
