use Rattle.std.proofs.Common.{◌≡◌, ℕ, ◌<◌, length}
use Rattle.sha2.specs.Sha256.{initial_hash_256}
use Rattle.sha256_lanes.specs.Lanes.{IsHashOf}
use Rattle.sha256_lanes.proofs.lanes.initial_hashes.Given as goal

abbrev pub invariant-lanes : goal.invariant-lanes
invariant-lanes l = record {
  size : length l.hashes ≡ 32;
  done : (k : ℕ) → k < l.l → IsHashOf initial_hash_256 l.hashes k;
}
