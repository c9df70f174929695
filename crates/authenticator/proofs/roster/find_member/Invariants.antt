use Rattle.std.proofs.Common.{◌≡◌, drop}
use Rattle.authenticator.specs.Roster.{member_of}
use Rattle.authenticator.proofs.roster.find_member.Given as goal

abbrev pub invariant-loop-member : goal.invariant-loop-member
invariant-loop-member l = member_of l.members l.node ≡ member_of (drop l.member-index l.members) l.node
