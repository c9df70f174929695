use Rattle.std.proofs.Common.{◌≡◌, drop}
use Rattle.authenticator.specs.Roster.{some_gaps}
use Rattle.authenticator.proofs.roster.has_gaps.Given as goal

abbrev pub invariant-loop-member : goal.invariant-loop-member
invariant-loop-member l = some_gaps l.members ≡ some_gaps (drop l.member-index l.members)
