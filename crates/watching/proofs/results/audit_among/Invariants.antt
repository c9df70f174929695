use Rattle.std.proofs.Common.{◌≡◌, length, map}
use Rattle.witness_books.specs.node_book.Replies.{challenge_in}
use Rattle.watching.specs.Answers.{audit_of}
use Rattle.watching.proofs.results.audit_among.Given as goal

abbrev pub invariant-loop-rest : goal.invariant-loop-rest
invariant-loop-rest l = audit_of (map challenge_in l.rest) ≡ audit_of (map challenge_in l.challenges)

abbrev pub decreases-loop-rest : goal.decreases-loop-rest
decreases-loop-rest l = length l.rest
