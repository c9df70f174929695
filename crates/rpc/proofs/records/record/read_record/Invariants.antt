use Rattle.std.proofs.Common.{◌≡◌, ◌≤◌}
use Rattle.std.specs.Prelude.{vec_capacity}
use Rattle.rpc.proofs.OfRecords.Fragments.{Progress}
use Rattle.rpc.proofs.records.record.read_record.Given as goal
use Rattle.rpc.specs.declared.records.record.TheConstants.{MAX_RECORD}

abbrev pub invariant-loop-count : goal.invariant-loop-count
invariant-loop-count g l =
    Progress l.joined.items l.count (g.R.Read.remaining l.initial.reader.inner)
    (g.R.Read.remaining l.reader.inner)
    × (l.reader.count ≡ l.initial.reader.count) × (MAX_RECORD ≤ vec_capacity l.joined)
