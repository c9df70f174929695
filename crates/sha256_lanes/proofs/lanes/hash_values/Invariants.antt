use Rattle.std.proofs.Common.{◌≡◌, ℕ, ◌<◌, List, length}
use Rattle.sha2.specs.Sha256.{compress}
use Rattle.sha256_lanes.specs.Lanes.{IsBlockOf, IsHashOf}
use Rattle.sha256_lanes.proofs.lanes.hash_values.Given as goal

abbrev pub invariant-lanes : goal.invariant-lanes
invariant-lanes l = record {
  size : length l.hashes ≡ 32;
  done : (k : ℕ) (h b : List ℕ) → k < l.l → length h ≡ 8 → IsHashOf h l.before k → IsBlockOf b l.words k
      → IsHashOf (compress h b) l.hashes k;
}
