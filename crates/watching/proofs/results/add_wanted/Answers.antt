use Rattle.std.proofs.Common.{rules, map}
use Rattle.witness_books.specs.node_book.Replies.{challenge_in}
use Rattle.watching.proofs.OfResults.{wanted_written}
use Rattle.watching.proofs.results.add_wanted.Goals as goal

pub returns : goal.returns
returns c =
    wanted_written c.add_messages.result (map challenge_in c.args.challenges.now) c.in-Ok.count _ _ _ _
    (rw c.audit_among.ensures at c.in_ok-add_audit.ensures) (search rules) c.in_ok-put_u32.ensures.writes
    c.add_messages.ensures
