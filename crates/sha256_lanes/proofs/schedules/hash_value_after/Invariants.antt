use Rattle.std.proofs.Common.{◌≡◌}
use Rattle.sha2.specs.Sha256.{hash_after}
use Rattle.sha256_lanes.proofs.schedules.hash_value_after.Given as goal

abbrev pub invariant-lanes : goal.invariant-lanes
invariant-lanes l = l.hash ≡ hash_after l.fn.hash l.blocks l.l
