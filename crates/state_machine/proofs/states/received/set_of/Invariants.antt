use Rattle.std.proofs.Common.{◌≡◌, take}
use Rattle.std.specs.List.{AllByRecursion}
use Rattle.state_machine.specs.States.Bounds.{ReceivedFits}
use Rattle.state_machine.proofs.states.received.set_of.Given as goal

abbrev pub invariant-loop-message : goal.invariant-loop-message
invariant-loop-message l =
    (l.set.keys ≡ take l.message-index l.messages) × AllByRecursion ReceivedFits l.set.keys
