use Rattle.std.proofs.Common.{◌≡◌, ◌-◌}
use Rattle.host_keys.specs.Rosters.{members_to}
use Rattle.host_keys.proofs.member_lines.members_at.Given as goal

abbrev pub invariant-loop-node : goal.invariant-loop-node
invariant-loop-node l = l.members.items ≡ members_to l.lines l.epoch (l.node - 1)
