use Rattle.std.proofs.Common.{◌+◌, arith}
use Rattle.sha256_lanes.proofs.BlockRounds.{one_more_word}
use Rattle.sha256_lanes.proofs.rounds.set_eight_words.Goals as goal

-- eight words more are those of the schedule
pub returns : goal.returns
returns c = λ b held.
    let t = c.args.t in
    let w1 = one_more_word b _ _ t (t + 1) (omega arith) (omega arith) (omega arith) held
    c.set_word.ensures in
    let w2 = one_more_word b _ _ (t + 1) (t + 2) (omega arith) (omega arith) (omega arith) w1
    c.set_word-2.ensures in
    let w3 = one_more_word b _ _ (t + 2) (t + 3) (omega arith) (omega arith) (omega arith) w2
    c.set_word-3.ensures in
    let w4 = one_more_word b _ _ (t + 3) (t + 4) (omega arith) (omega arith) (omega arith) w3
    c.set_word-4.ensures in
    let w5 = one_more_word b _ _ (t + 4) (t + 5) (omega arith) (omega arith) (omega arith) w4
    c.set_word-5.ensures in
    let w6 = one_more_word b _ _ (t + 5) (t + 6) (omega arith) (omega arith) (omega arith) w5
    c.set_word-6.ensures in
    let w7 = one_more_word b _ _ (t + 6) (t + 7) (omega arith) (omega arith) (omega arith) w6
    c.set_word-7.ensures in
    one_more_word b _ _ (t + 7) (t + 8) (omega arith) (omega arith) (omega arith) w7 c.set_word-8.ensures
