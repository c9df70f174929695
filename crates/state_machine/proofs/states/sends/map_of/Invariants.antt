use Rattle.std.proofs.Common.{◌≡◌, take}
use Rattle.std.specs.List.{AllByRecursion}
use Rattle.state_machine.specs.States.Bounds.{SentFits}
use Rattle.state_machine.specs.States.Numbered.{numbered}
use Rattle.state_machine.proofs.states.sends.map_of.Given as goal

abbrev pub invariant-loop-sent : goal.invariant-loop-sent
invariant-loop-sent l =
    (l.map.entries ≡ take l.sent-index (numbered l.messages)) × AllByRecursion SentFits l.map.entries
