use Rattle.std.proofs.Common.{◌≡◌, ℕ, ◌+◌, ◌*◌, ◌<◌, length, slice_index}
use Rattle.sha256_lanes.proofs.lanes.lane_hash.Given as goal

abbrev pub invariant-words : goal.invariant-words
invariant-words l = record {
  size : length l.own ≡ 8;
  own : (k : ℕ) → k < l.i → slice_index l.hashes (4 * k + l.l) ≡ slice_index l.own k;
}
