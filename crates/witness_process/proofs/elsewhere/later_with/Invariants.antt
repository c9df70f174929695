use Rattle.std.proofs.Common.{◌≡◌, drop}
use Rattle.witness_process.specs.Rosters.{later_with}
use Rattle.witness_process.proofs.elsewhere.later_with.Given as goal

abbrev pub invariant-loop-roster : goal.invariant-loop-roster
invariant-loop-roster l =
    later_with l.known l.own l.digest ≡ later_with (drop l.roster-index l.known) l.own l.digest
