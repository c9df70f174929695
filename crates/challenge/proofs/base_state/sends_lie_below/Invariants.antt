use Rattle.std.proofs.Common.{drop}
use Rattle.std.specs.Prelude.{◌↔◌}
use Rattle.std.specs.List.{AllByRecursion}
use Rattle.challenge.proofs.BaseStates.{LiesBelow}
use Rattle.challenge.proofs.base_state.sends_lie_below.Given as goal

abbrev pub invariant-loop-place : goal.invariant-loop-place
invariant-loop-place l =
    AllByRecursion (LiesBelow l.version l.number) (drop l.place l.parts.sends.items)
    ↔ AllByRecursion (LiesBelow l.version l.number) l.parts.sends.items
