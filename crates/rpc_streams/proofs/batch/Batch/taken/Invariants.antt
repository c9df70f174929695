use Rattle.std.proofs.Common.{◌≡◌, drop}
use Rattle.rpc_streams.specs.Batches.{taken_by}
use Rattle.rpc_streams.proofs.batch.Batch.taken.Given as goal

abbrev pub invariant-loop-end : goal.invariant-loop-end
invariant-loop-end l =
    taken_by l.written 0 l.self.ends.items ≡ taken_by l.written l.taken (drop l.end-index l.self.ends.items)
