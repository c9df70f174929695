use Rattle.state_spec.specs.StateItems.{received_item, received_value}
use Rattle.file_texts.proofs.Arrays.{AddsRest}
use Rattle.state_machine.proofs.states.received.add_each.Given as goal

abbrev pub invariant-loop-message : goal.invariant-loop-message
invariant-loop-message l =
    AddsRest received_item received_value l.messages.keys l.message-iterator l.initial.out.items l.out.items
