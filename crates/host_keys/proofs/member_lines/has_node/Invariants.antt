use Rattle.std.proofs.Common.{◌≡◌, drop}
use Rattle.host_keys.specs.Rosters.{has_node}
use Rattle.host_keys.proofs.member_lines.has_node.Given as goal

abbrev pub invariant-loop-line : goal.invariant-loop-line
invariant-loop-line l = has_node l.lines l.node ≡ has_node (drop l.line-index l.lines) l.node
