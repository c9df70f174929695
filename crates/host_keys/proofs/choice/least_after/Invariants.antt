use Rattle.std.proofs.Common.{◌≡◌, None, drop}
use Rattle.host_keys.specs.Spent.{least_from}
use Rattle.host_keys.proofs.choice.least_after.Given as goal

abbrev pub invariant-loop-roster : goal.invariant-loop-roster
invariant-loop-roster l =
    least_from l.number None l.rosters ≡ least_from l.number l.least (drop l.roster-index l.rosters)
