use Rattle.std.proofs.Common.{◌≡◌, false, take}
use Rattle.std.specs.List.{list_any}
use Rattle.witness_spec.specs.Standing.{is_recv_of}
use Rattle.node_book.proofs.challenges.is_received.Given as goal

abbrev pub invariant-loop-entry : goal.invariant-loop-entry
invariant-loop-entry l = list_any (is_recv_of l.node l.message) (take l.entry-index l.entries) ≡ false
