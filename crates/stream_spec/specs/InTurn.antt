-- Records one after the other, each at its time.
use Rattle.std.specs.Prelude.{◌+◌, ℕ, List, [], ◌∷◌}

-- each record with its time, of whatever kind times are: the first with the k-th
abbrev pub with_times : {Time : Type 0} → (ℕ → Time) → ℕ → List (List ℕ) → List (Time × List ℕ)
with_times times k [] = []
with_times times k (r ∷ rs) = (times k, r) ∷ with_times times (k + 1) rs
