use Rattle.std.proofs.Common.{◌≤◌, ◌-◌, ◌^◌}
use Rattle.std.specs.Prelude.{vec_capacity}
use Rattle.rpc.specs.declared.records.record.TheConstants.{MAX_RECORD}
use Rattle.rpc_streams.specs.declared.batch.TheConstants.{MOST_RECORDS}
use Rattle.rpc_streams.proofs.LoopProgress.{Turn}
use Rattle.rpc_streams.proofs.stream.serve_records.Given as goal

abbrev pub invariant-loop-k : goal.invariant-loop-k
invariant-loop-k g l =
    Turn l.service.world l.k (g.R.Read.remaining l.initial.reader.reader.inner)
    (g.R.Read.remaining l.reader.reader.inner) (g.W.Write.contents l.initial.writer.inner)
    (g.W.Write.contents l.writer.inner)
    l.reader.fault l.initial.reader.reader.count l.reader.reader.count l.initial.writer.count l.writer.count
    × (1 ≤ l.k) × (MAX_RECORD ≤ vec_capacity l.record) × (MOST_RECORDS ≤ vec_capacity l.batch.ends)

abbrev pub decreases-loop-k : goal.decreases-loop-k
decreases-loop-k g l = 2 ^ 64 - l.k
