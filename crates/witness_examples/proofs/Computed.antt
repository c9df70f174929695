-- What is left after so many of a list.
-- Serves: the_oldest_is_forwarded.
use Rattle.std.proofs.Common.{◌≡◌, ℕ, zero, suc, List, [], ◌∷◌, drop}

-- the rest after so many
pub drop_more : {A : Type 0} (k : ℕ) (xs : List A) (x : A) (rest : List A) → drop k xs ≡ x ∷ rest
    → drop (suc k) xs ≡ rest
drop_more zero [] x rest h = absurd (cc)
drop_more zero (y ∷ xs) x rest h = cc
drop_more (suc k) [] x rest h = absurd (cc)
drop_more (suc k) (y ∷ xs) x rest h = drop_more k xs x rest h
