use Rattle.state_spec.specs.StateItems.{sent_item, sent_value}
use Rattle.file_texts.proofs.Arrays.{AddsRest}
use Rattle.state_machine.proofs.states.sends.add_each.Given as goal

abbrev pub invariant-loop-seq : goal.invariant-loop-seq
invariant-loop-seq l =
    AddsRest sent_item sent_value l.messages.entries l.seq-iterator l.initial.out.items l.out.items
