-- Cookies rise still where an entry is put last, also in place of the one that its name had.
-- Serves: `Directory::put`, `add`, `skip_to`.
use Rattle.std.proofs.Common.{ℕ, ◌+◌, ◌≤◌, Bool, List, [], ◌∷◌, ◌++◌, nat_eq, arith}
use Rattle.std.specs.Map.{remove_entry}
use Rattle.std.specs.Cmp.Lexicographic.{pointwise}
use Rattle.nfs_spec.specs.fs_spec.Listing.{IsRising}
use Rattle.nfs_spec.proofs.fs_spec.Cookies.{rising_pushed, rising_removed}

-- with an entry less
pub rising_without : (low : ℕ) (test : List ℕ → Bool) (es : List (List ℕ × (ℕ × ℕ))) (high : ℕ)
    → IsRising low es high → IsRising low (remove_entry test es) high
rising_without low test es high h = rising_removed low test es high h

-- with an entry put last at the next cookie, in place of the one that its name had
pub rising_put : (low : ℕ) (es : List (List ℕ × (ℕ × ℕ))) (high : ℕ) (name : List ℕ) (number : ℕ)
    → IsRising low es high
    → IsRising low (remove_entry (pointwise nat_eq name) es ++ (name, (number, high)) ∷ []) (high + 1)
rising_put low es high name number h =
    rising_pushed low (remove_entry (pointwise nat_eq name) es) high name number
    (rising_removed low (pointwise nat_eq name) es high h)

-- with an entry put last at a later cookie
pub rising_added : (low : ℕ) (es : List (List ℕ × (ℕ × ℕ))) (high : ℕ) (name : List ℕ) (number cookie : ℕ)
    → high ≤ cookie → IsRising low es high
    → IsRising low (es ++ (name, (number, cookie)) ∷ []) (cookie + 1)
rising_added low [] high name number cookie le h = (omega (arith, h), omega arith)
rising_added low (e ∷ es) high name number cookie le h =
    (h.0, rising_added (e.1.1 + 1) es high name number cookie le h.1)

-- with a later next cookie
pub rising_to : (low : ℕ) (es : List (List ℕ × (ℕ × ℕ))) (high later : ℕ) → high ≤ later
    → IsRising low es high → IsRising low es later
rising_to low [] high later le h = omega (arith, h)
rising_to low (e ∷ es) high later le h = (h.0, rising_to (e.1.1 + 1) es high later le h.1)
