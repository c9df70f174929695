use Rattle.std.proofs.Common.{◌≡◌, ℕ, ◌+◌, ◌*◌, ◌<◌, length, slice_index}
use Rattle.sha256_lanes.proofs.lanes.block_words.Given as goal

abbrev pub invariant-words : goal.invariant-words
invariant-words l = record {
  size : length l.own ≡ 64;
  own : (k : ℕ) → k < l.i → slice_index l.own k ≡ slice_index l.words (4 * k + l.l);
}
