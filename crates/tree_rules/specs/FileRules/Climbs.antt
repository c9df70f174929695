-- Steps up, over places that each lead to one above.
use Rattle.std.specs.Prelude.{◌≡◌, ◌<◌, ◌↔◌, ℕ, zero, suc, List, length, slice_index, Bool, IsTrue}
use Rattle.std.specs.List.{All}

-- where so many steps up from a place lead
abbrev pub climbed : List ℕ → ℕ → ℕ → ℕ
climbed above zero place = place
climbed above (suc steps) place = climbed above steps (slice_index above place)

-- each place leads to one of them
abbrev pub AreWays : List ℕ → Type 0
AreWays above = All (λ place. place < length above) above

-- the answer is whether each place leads to the first, in more steps than there are places
abbrev pub TellsWays : List ℕ → Bool → Type 0
TellsWays above answer =
    (steps : ℕ) × (length above < steps)
    × (IsTrue answer ↔ ((place : ℕ) → place < length above → climbed above steps place ≡ 0))
