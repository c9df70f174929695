-- A block's message schedule word by word, and the rounds one by one.
-- Serves: set_eight_words, schedule, eight_rounds, eight_lane_rounds.
use Rattle.std.proofs.Common.{◌≡◌, ◌≢◌, ℕ, ◌+◌, ◌-◌, ◌*◌, ◌<◌, ◌≤◌, List, length, slice_index, slice_set}
use Rattle.std.proofs.Common.{sym, ap, ◌∙◌, arith, inl, inr}
use Rattle.std.proofs.lemmas.List.{get_or-set_same, get_or-set_other, length-set}
use Rattle.std.proofs.lemmas.Grind.{same_number_lists}
use Rattle.std.proofs.lemmas.Bool.{cases_lt}
use Rattle.sha2.specs.Sha256.{next_word, round, round_constants, rounds, schedule, word_at}
use Rattle.sha2.proofs.Schedule256.{length-schedule, slice_index-schedule_first, slice_index-schedule_next}
use Rattle.sha2.proofs.Schedule256.{rounds_next}
use Rattle.sha256_lanes.specs.Lanes.{HasWords}

-- the first sixteen words are the block's own
pub block_words_held : (b w : List ℕ) → length w ≡ 64
    → ((k : ℕ) → k < 16 → slice_index w k ≡ word_at b (4 * k)) → HasWords b w 16
block_words_held b w size own = record {
  size = size;
  words = λ k h. own k h ∙ sym (slice_index-schedule_first b 48 k h);
}

-- a word that is made from those before it is the schedule's
next_word_held : (b w : List ℕ) (t : ℕ) → 16 ≤ t → t < 64 → HasWords b w t
    → next_word w t ≡ slice_index (schedule b 48) t
next_word_held b w t low high held =
    let e2 = held.words (t - 2) (omega arith) in
    let e7 = held.words (t - 7) (omega arith) in
    let e15 = held.words (t - 15) (omega arith) in
    let e16 = held.words (t - 16) (omega arith) in
    rw (e2, e7, e15, e16) (sym (slice_index-schedule_next b 48 t low (omega arith)))

-- one more word
pub one_more_word : (b w new : List ℕ) (t n : ℕ) → n ≡ t + 1 → 16 ≤ t → t < 64 → HasWords b w t
    → new ≡ slice_set w t (next_word w t) → HasWords b new n
one_more_word b w new t n next low high held is =
    let x : ℕ = next_word w t in
    record {
      size = ap length is ∙ length-set w t x ∙ held.size;
      words = λ k h. ap (λ (l : List ℕ). slice_index l k) is ∙ at k (omega arith);
    }
  where
    at : (k : ℕ) → k < t + 1
        → slice_index (slice_set w t (next_word w t)) k ≡ slice_index (schedule b 48) k
    at k h = elim (cases_lt k t) [
      | inl before ↦
          let other : k ≢ t = omega arith in
          get_or-set_other w t k (next_word w t) 0 other ∙ held.words k before
      | inr after ↦
          let same : k ≡ t = omega arith in
          let within : t < length w = omega (arith, held.size) in
          rw same (get_or-set_same w t (next_word w t) 0 within ∙ next_word_held b w t low high held)
    ]

-- all 64 words are the schedule
pub whole_schedule : (b w : List ℕ) → HasWords b w 64 → w ≡ schedule b 48
whole_schedule b w held =
    let whole : length (schedule b 48) ≡ 64 = length-schedule b 48 in
    let size : length w ≡ 64 = held.size in
    same_number_lists w (schedule b 48) (omega arith) (λ k h. held.words k (omega arith))

-- one more round
pub one_more_round : (h w v next : List ℕ) (t n : ℕ) → n ≡ t + 1 → v ≡ rounds h w t
    → next ≡ round v (slice_index round_constants t) (slice_index w t) → next ≡ rounds h w n
one_more_round h w v next t n count held is =
    let by = λ (x : List ℕ). round x (slice_index round_constants t) (slice_index w t) in
    is ∙ ap by held ∙ sym (rounds_next h w t) ∙ ap (rounds h w) (sym count)
