use Rattle.std.proofs.Common.{take}
use Rattle.std.specs.List.{AllByRecursion}
use Rattle.node_logs.specs.replay_spec.Bodies.{HasBytes}
use Rattle.witness_node_laws.proofs.texts.bodies_are_bytes.Given as goal

abbrev pub invariant-loop-entry : goal.invariant-loop-entry
invariant-loop-entry l = AllByRecursion HasBytes (take l.entry-index l.entries)
