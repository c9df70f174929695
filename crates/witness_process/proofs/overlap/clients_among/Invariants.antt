use Rattle.std.proofs.Common.{◌≡◌, take}
use Rattle.witness_process.specs.Overlaps.{clients_of}
use Rattle.witness_process.proofs.overlap.clients_among.Given as goal

abbrev pub invariant-loop-member : goal.invariant-loop-member
invariant-loop-member l = l.nodes.items ≡ clients_of (take l.member-index l.members)
