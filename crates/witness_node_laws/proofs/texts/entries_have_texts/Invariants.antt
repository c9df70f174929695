use Rattle.std.proofs.Common.{take}
use Rattle.secure_log.specs.Segment.{EachFits}
use Rattle.witness_node_laws.proofs.texts.entries_have_texts.Given as goal

abbrev pub invariant-loop-entry : goal.invariant-loop-entry
invariant-loop-entry l = EachFits (take l.entry-index l.entries)
