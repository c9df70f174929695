use Rattle.std.proofs.Common.{◌≡◌, ℕ, ◌*◌, ◌<◌, length, slice_index, arith, ◌∙◌}
use Rattle.sha2.specs.Sha256.{word_at}
use Rattle.sha256_lanes.proofs.BlockRounds.{block_words_held, whole_schedule}
use Rattle.sha256_lanes.proofs.schedules.lane_schedule.Goals as goal

-- six times eight words end the schedule
pub returns : goal.returns
returns c = λ b block.
    let size : length c.block_words-w.result ≡ 64 = omega arith in
    let own : (k : ℕ) → k < 16 → slice_index c.block_words-w.result k ≡ word_at b (4 * k) =
    λ k low. c.block_words-w.ensures k low ∙ block.each k low in
    let w24 = c.set_eight_words.ensures b (block_words_held b c.block_words-w.result size own) in
    let w32 = c.set_eight_words-2.ensures b w24 in
    let w40 = c.set_eight_words-3.ensures b w32 in
    let w48 = c.set_eight_words-4.ensures b w40 in
    let w56 = c.set_eight_words-5.ensures b w48 in
    whole_schedule b _ (c.set_eight_words-6.ensures b w56)
