use Rattle.std.proofs.Common.{◌≡◌, drop}
use Rattle.authenticator.specs.Roster.{EachFits, first_fault}
use Rattle.authenticator.proofs.roster.first_fault.Given as goal

abbrev pub invariant-loop-member : goal.invariant-loop-member
invariant-loop-member l = record {
  fault : first_fault 0 l.members ≡ first_fault l.low (drop l.member-index l.members);
  fit : EachFits (drop l.member-index l.members) → EachFits l.members;
}
