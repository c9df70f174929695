use Rattle.std.proofs.Common.{◌≡◌, ℕ, ◌<◌, [], length, slice_index_or}
use Rattle.sha256_lanes.specs.Lanes.{IsBlockOf}
use Rattle.sha256_lanes.proofs.blocks.words_of.Given as goal

abbrev pub invariant-lanes : goal.invariant-lanes
invariant-lanes l = record {
  size : length l.words ≡ 64;
  set : (k : ℕ) → k < l.l → IsBlockOf (slice_index_or l.blocks k []) l.words k;
}
