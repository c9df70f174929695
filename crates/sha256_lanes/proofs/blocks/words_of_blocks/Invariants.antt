use Rattle.std.proofs.Common.{◌≡◌, ℕ, ◌*◌, ◌<◌, length, take, drop}
use Rattle.sha256_lanes.specs.Lanes.{IsBlockOf}
use Rattle.sha256_lanes.proofs.blocks.words_of_blocks.Given as goal

abbrev pub invariant-lanes : goal.invariant-lanes
invariant-lanes l = record {
  size : length l.words ≡ 64;
  set : (k : ℕ) → k < l.l → IsBlockOf (take 64 (drop (k * 64) l.blocks)) l.words k;
}
