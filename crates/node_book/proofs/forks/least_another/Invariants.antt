use Rattle.std.proofs.Common.{◌≡◌, None, drop}
use Rattle.witness_book_laws.specs.Answers.{least_from}
use Rattle.node_book.proofs.forks.least_another.Given as goal

abbrev pub invariant-loop-authenticator : goal.invariant-loop-authenticator
invariant-loop-authenticator l =
    least_from l.version l.closed.segment l.least (drop l.authenticator-index l.learned)
    ≡ least_from l.version l.closed.segment None l.learned
