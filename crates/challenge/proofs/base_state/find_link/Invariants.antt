use Rattle.std.proofs.Common.{◌≡◌, ◌-◌, ◌≤◌, drop}
use Rattle.challenge.specs.BaseStates.{link_at}
use Rattle.challenge.proofs.base_state.find_link.Given as goal

abbrev pub invariant-loop-place : goal.invariant-loop-place
invariant-loop-place l = record {
  low : l.left ≤ l.number;
  same : link_at (l.number - l.left) (drop l.place l.links) l.number ≡ link_at l.before l.links l.number;
}
