use Rattle.std.proofs.Common.{map}
use Rattle.node_book.specs.Events.{event_in}
use Rattle.node_book.specs.Replies.{reply_in}
use Rattle.witness_books.specs.Books.{beginning_of, parts_in}
use Rattle.witness_books.proofs.Witnessed.{is_witnessed}
use Rattle.witness_books.proofs.runs.run.Goals as goal

pub returns-in-Ok-clause-witnessed : goal.returns-in-Ok-clause-witnessed
returns-in-Ok-clause-witnessed c =
    is_witnessed c.runs_are_histories.ensures.starting c.args.books.now c.run_all.new.books
    (map event_in c.args.events.items) (map reply_in c.run_all.result.items) c.run_all.ensures.runs

pub returns-in-Ok-clause-headline : goal.returns-in-Ok-clause-headline
returns-in-Ok-clause-headline c =
    c.runs_keep_the_headline.ensures (beginning_of c.args.books.now) (parts_in c.args.books.now)
    (parts_in c.run_all.new.books) (map event_in c.args.events.items) (map reply_in c.run_all.result.items)
    c.run_all.ensures.runs
