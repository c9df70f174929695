use Rattle.std.proofs.Common.{◌≡◌, ℕ, ◌<◌, List, length}
use Rattle.sha2.specs.Sha256.{schedule}
use Rattle.sha256_lanes.specs.Lanes.{HasSums, IsBlockOf}
use Rattle.sha256_lanes.proofs.schedules.schedules.Given as goal

abbrev pub invariant-lanes : goal.invariant-lanes
invariant-lanes l = record {
  size : length l.all ≡ 256;
  done : (k : ℕ) (b : List ℕ) → k < l.l → IsBlockOf b l.words k → HasSums (schedule b 48) l.all k 64;
}
