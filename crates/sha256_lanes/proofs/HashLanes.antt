-- The hash values of four lanes, while one after the other is set.
-- Serves: hash_values, schedules.
use Rattle.std.proofs.Common.{◌≡◌, ◌≢◌, ℕ, ◌+◌, ◌*◌, ◌%◌, ◌<◌, List, length, slice_index, sym, ◌∙◌, ap, arith}
use Rattle.std.proofs.lemmas.Grind.{same_number_lists}
use Rattle.sha2.specs.Sha256.{compress}
use Rattle.sha256_lanes.specs.Lanes.{HasSums, IsHashOf, KeepsOthers}

-- a lane has one hash value
same_hash : (l : ℕ) (g h words : List ℕ) → length g ≡ 8 → length h ≡ 8 → IsHashOf g words l
    → IsHashOf h words l
    → g ≡ h
same_hash l g h words sg sh lg lh =
    same_number_lists g h (sg ∙ sym sh) (λ k low. sym (lg k (omega arith)) ∙ lh k (omega arith))

-- setting lane n keeps the hash value of lane l
pub kept_hash : (l n : ℕ) (h before after : List ℕ) → l < 4 → l ≢ n → KeepsOthers n before after
    → IsHashOf h before l → IsHashOf h after l
kept_hash l n h before after lane other kept held =
    λ k low. let apart : (4 * k + l) % 4 ≢ n = omega arith in kept (4 * k + l) apart ∙ held k low

-- the lane that was set has the hash value after its block
pub set_lane : (l : ℕ) (own h b next before after : List ℕ) → length own ≡ 8 → length h ≡ 8
    → IsHashOf own before l → IsHashOf h before l → next ≡ compress own b → IsHashOf next after l
    → IsHashOf (compress h b) after l
set_lane l own h b next before after so sh lo lh is set =
    let same : next ≡ compress h b = is
    ∙ ap (λ (g : List ℕ). compress g b) (same_hash l own h before so sh lo lh) in
    λ k low. set k low ∙ ap (λ (g : List ℕ). slice_index g k) same

-- setting lane n keeps the sums of lane l
pub kept_sums : (l n size : ℕ) (w before after : List ℕ) → l < 4 → l ≢ n → KeepsOthers n before after
    → HasSums w before l size → HasSums w after l size
kept_sums l n size w before after lane other kept held =
    λ k low. let apart : (4 * k + l) % 4 ≢ n = omega arith in kept (4 * k + l) apart ∙ held k low
