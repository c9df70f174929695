use Rattle.std.proofs.Common.{◌≡◌, drop}
use Rattle.authenticator.specs.Roster.{rises_above, member_values}
use Rattle.authenticator.proofs.roster.are_rising.Given as goal

abbrev pub invariant-loop-member : goal.invariant-loop-member
invariant-loop-member l =
    rises_above 0 (member_values l.members) ≡ rises_above l.low (member_values (drop l.member-index l.members))
