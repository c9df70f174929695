use Rattle.std.proofs.Common.{◌≡◌, ℕ, ◌+◌, ◌*◌, ◌<◌, length, slice_index}
use Rattle.sha256_lanes.specs.Lanes.{KeepsOthers}
use Rattle.sha256_lanes.proofs.lanes.set_hash.Given as goal

abbrev pub invariant-words : goal.invariant-words
invariant-words l = record {
  size : length l.hashes ≡ 32;
  set : (k : ℕ) → k < l.i → slice_index l.hashes (4 * k + l.l) ≡ slice_index l.hash k;
  others : KeepsOthers l.l l.fn.hashes l.hashes;
}
