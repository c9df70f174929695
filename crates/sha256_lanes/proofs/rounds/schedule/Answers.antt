use Rattle.std.proofs.Common.{◌≡◌, length, arith}
use Rattle.sha256_lanes.proofs.BlockRounds.{block_words_held, whole_schedule}
use Rattle.sha256_lanes.proofs.rounds.schedule.Goals as goal

-- six times eight words end the schedule
pub returns : goal.returns
returns c = λ b own.
    let size : length c.args.words ≡ 64 = omega arith in
    let w24 = c.set_eight_words.ensures b (block_words_held b c.args.words size own) in
    let w32 = c.set_eight_words-2.ensures b w24 in
    let w40 = c.set_eight_words-3.ensures b w32 in
    let w48 = c.set_eight_words-4.ensures b w40 in
    let w56 = c.set_eight_words-5.ensures b w48 in
    whole_schedule b _ (c.set_eight_words-6.ensures b w56)
