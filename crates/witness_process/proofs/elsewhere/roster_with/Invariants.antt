use Rattle.std.proofs.Common.{◌≡◌, drop}
use Rattle.witness_process.specs.Rosters.{roster_with}
use Rattle.witness_process.proofs.elsewhere.roster_with.Given as goal

abbrev pub invariant-loop-roster : goal.invariant-loop-roster
invariant-loop-roster l = roster_with l.known l.digest ≡ roster_with (drop l.roster-index l.known) l.digest
