-- Four places of a key, or four leaves, at a time.
use Rattle.std.specs.Prelude.{ℕ, ◌+◌, Bool, List, [], ◌∷◌}

-- the bytes that f gives at four places, or of four leaves, from n on
abbrev pub four : (ℕ → List ℕ) → ℕ → List (List ℕ)
four f n = f n ∷ f (n + 1) ∷ f (n + 2) ∷ f (n + 3) ∷ []

-- the bit values at four places, from n on
abbrev pub four_bits : (ℕ → Bool) → ℕ → List Bool
four_bits bit n = bit n ∷ bit (n + 1) ∷ bit (n + 2) ∷ bit (n + 3) ∷ []
