use Rattle.std.proofs.Common.{◌≡◌, drop}
use Rattle.host_keys.specs.Rosters.{member_at}
use Rattle.host_keys.proofs.member_lines.member_at.Given as goal

abbrev pub invariant-loop-line : goal.invariant-loop-line
invariant-loop-line l =
    member_at l.lines l.epoch l.node ≡ member_at (drop l.line-index l.lines) l.epoch l.node
