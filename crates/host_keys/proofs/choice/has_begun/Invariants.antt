use Rattle.std.proofs.Common.{◌≡◌, drop}
use Rattle.host_keys.specs.Spent.{has_begun}
use Rattle.host_keys.proofs.choice.has_begun.Given as goal

abbrev pub invariant-loop-one : goal.invariant-loop-one
invariant-loop-one l =
    has_begun l.begun l.epoch l.node ≡ has_begun (drop l.one-index l.begun) l.epoch l.node
