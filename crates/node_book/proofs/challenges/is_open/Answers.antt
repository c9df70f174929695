use Rattle.std.proofs.Common.{rules, sym, ◌∙◌}
use Rattle.witness_spec.specs.Standing.{is_send_of}
use Rattle.node_book.specs.Replies.{challenge_in}
use Rattle.node_book.proofs.Mapped.{found_at, found_none}
use Rattle.node_book.proofs.challenges.is_open.Goals as goal

-- one with the message is found
pub returns-then-is_send_of : goal.returns-then-is_send_of
returns-then-is_send_of c =
    sym (found_at (is_send_of c.args.message.now) challenge_in c.args.challenges.now
    c.loop-challenge.challenge-index c.challenge-item.result (search rules) c.challenge-item.is
    (sym c.is_send_of.ensures ∙ c.if-is_send_of.true))

-- none is found
pub returns : goal.returns
returns c =
    sym (found_none (is_send_of c.args.message.now) challenge_in c.args.challenges.now
    c.loop-challenge.challenge-index (search rules) c.loop-challenge.invariant)
