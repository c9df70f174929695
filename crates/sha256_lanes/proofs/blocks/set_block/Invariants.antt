use Rattle.std.proofs.Common.{◌≡◌, ℕ, ◌+◌, ◌*◌, ◌<◌, length, slice_index}
use Rattle.sha2.specs.Sha256.{word_at}
use Rattle.sha256_lanes.specs.Lanes.{KeepsOthers}
use Rattle.sha256_lanes.proofs.blocks.set_block.Given as goal

abbrev pub invariant-words : goal.invariant-words
invariant-words l = record {
  size : length l.words ≡ 64;
  set : (k : ℕ) → k < l.i → slice_index l.words (4 * k + l.l) ≡ word_at l.block (4 * k);
  others : KeepsOthers l.l l.fn.words l.words;
}
