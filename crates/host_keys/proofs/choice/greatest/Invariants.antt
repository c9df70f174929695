use Rattle.std.proofs.Common.{◌≡◌, drop, max}
use Rattle.host_keys.specs.Spent.{greatest}
use Rattle.host_keys.proofs.choice.greatest.Given as goal

abbrev pub invariant-loop-one : goal.invariant-loop-one
invariant-loop-one l = greatest l.begun ≡ max l.most (greatest (drop l.one-index l.begun))
