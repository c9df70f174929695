use Rattle.std.proofs.Common.{◌≡◌, ◌<◌, take}
use Rattle.witness_spec.specs.Owing.{last_in_reach}
use Rattle.node_book.proofs.decide.last_in_reach.Given as goal

abbrev pub invariant-loop-authenticator : goal.invariant-loop-authenticator
invariant-loop-authenticator l =
    (l.last ≡ last_in_reach l.version l.end (take l.authenticator-index l.learned)) × (l.last < 18446744073709551615)
