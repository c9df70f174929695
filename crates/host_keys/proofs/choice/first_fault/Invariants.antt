use Rattle.std.proofs.Common.{◌≡◌, drop}
use Rattle.host_keys.specs.Spent.{first_fault}
use Rattle.host_keys.proofs.choice.first_fault.Given as goal

abbrev pub invariant-loop-one : goal.invariant-loop-one
invariant-loop-one l = first_fault l.roster l.begun ≡ first_fault l.roster (drop l.one-index l.begun)
