use Rattle.std.proofs.Common.{◌≤◌, ◌-◌, length}
use Rattle.std.specs.Prelude.{vec_capacity}
use Rattle.rpc_streams.proofs.Filled.{Filled}
use Rattle.rpc_streams.specs.declared.batch.TheConstants.{MOST_RECORDS}
use Rattle.rpc_streams.proofs.batch.Batch.fill.Given as goal

abbrev pub invariant-loop-self : goal.invariant-loop-self
invariant-loop-self l =
    Filled l.initial.service.world l.k l.service.world l.initial.self.replies.items l.bytes
    l.self.replies.items
    l.self.ends.items l.taken
    × (length l.self.ends.items ≤ l.most) × (MOST_RECORDS ≤ vec_capacity l.self.ends)

abbrev pub decreases-loop-self : goal.decreases-loop-self
decreases-loop-self l = l.most - length l.self.ends.items
