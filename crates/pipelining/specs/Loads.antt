-- How many calls each of some ways has.
use Rattle.std.specs.Prelude.{◌≡◌, ◌+◌, ◌-◌, ◌^◌, ◌<◌, ◌≤◌, ℕ, List, All, length, slice_index}

-- Nothing but the number of one way's calls has changed.
pub record KeepsOthers (loads : List ℕ) (way : ℕ) (loads' : List ℕ) : Type 0 where
  pub many : length loads' ≡ length loads
  pub others : (other : ℕ) → (¬ (other ≡ way)) → slice_index loads' other ≡ slice_index loads other

-- A way with the fewest calls gets one more, unless it has 2^64 - 1.
pub record Chooses (loads : List ℕ) (way : ℕ) (loads' : List ℕ) : Type 0 where
  pub within : way < length loads
  pub fewest : All (λ n. slice_index loads way ≤ n) loads
  pub more : slice_index loads way + 1 < 2 ^ 64 → slice_index loads' way ≡ slice_index loads way + 1
  pub kept : KeepsOthers loads way loads'

-- A way has one call less, if it has one.
pub record Leaves (loads : List ℕ) (way : ℕ) (loads' : List ℕ) : Type 0 where
  pub less : way < length loads → slice_index loads' way ≡ slice_index loads way - 1
  pub kept : KeepsOthers loads way loads'
