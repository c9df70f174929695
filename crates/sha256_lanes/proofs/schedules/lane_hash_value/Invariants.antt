use Rattle.std.proofs.Common.{◌≡◌, ℕ, ◌*◌, List}
use Rattle.sha2.specs.Sha256.{rounds, schedule}
use Rattle.sha256_lanes.specs.Lanes.{HasSums}
use Rattle.sha256_lanes.proofs.schedules.lane_hash_value.Given as goal

abbrev pub invariant-turns : goal.invariant-turns
invariant-turns l = (b : List ℕ) → HasSums (schedule b 48) l.sums l.l 64
    → l.v ≡ rounds l.hash (schedule b 48) (8 * l.turn)
