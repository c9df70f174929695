use Rattle.std.proofs.Common.{◌≡◌, ◌++◌, List, ℕ, length, map}
use Rattle.witness_books.specs.node_book.Replies.{challenge_in}
use Rattle.watching.specs.Answers.{messages_text}
use Rattle.watching.proofs.results.add_messages.Given as goal

abbrev pub invariant-loop-rest : goal.invariant-loop-rest
invariant-loop-rest l =
    (done : List ℕ) × (l.out.items ≡ l.initial.out.items ++ done)
    × (messages_text (map challenge_in l.challenges) ≡ done ++ messages_text (map challenge_in l.rest))

abbrev pub decreases-loop-rest : goal.decreases-loop-rest
decreases-loop-rest l = length l.rest
