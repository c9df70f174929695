use Rattle.std.proofs.Common.{◌≡◌, ◌≤◌, ◌+◌, length, map}
use Rattle.witness_books.specs.node_book.Replies.{challenge_in}
use Rattle.watching.specs.Answers.{messages_of}
use Rattle.watching.proofs.results.count_messages.Given as goal

abbrev pub invariant-loop-rest : goal.invariant-loop-rest
invariant-loop-rest l =
    (l.count + length l.rest ≤ length l.challenges)
    × (l.count + length (messages_of (map challenge_in l.rest))
    ≡ length (messages_of (map challenge_in l.challenges)))

abbrev pub decreases-loop-rest : goal.decreases-loop-rest
decreases-loop-rest l = length l.rest
