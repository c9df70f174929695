use Rattle.std.proofs.Common.{◌≡◌, ◌==◌, find, drop}
use Rattle.authenticator.specs.declared.authenticator.Authenticator.{Authenticator}
use Rattle.witness_spec.specs.Pairs.{number_of}
use Rattle.node_book.proofs.looking.learned_at.Given as goal

abbrev pub invariant-loop-authenticator : goal.invariant-loop-authenticator
invariant-loop-authenticator l =
    find (λ (a : Authenticator). number_of l.version a == l.number) l.learned
    ≡ find (λ (a : Authenticator). number_of l.version a == l.number) (drop l.authenticator-index l.learned)
