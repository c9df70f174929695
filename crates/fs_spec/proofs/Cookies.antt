-- Cookies that rise: they rise still where an entry goes, and where one is put last with the next cookie.
-- Serves: trees_stay_trees (nfs_laws), `Directory::put` (inodes).
use Rattle.std.proofs.Common.{ℕ, ◌+◌, ◌≤◌, Bool, true, false, cond, List, [], ◌∷◌, ◌++◌, arith}
use Rattle.std.specs.Map.{remove_entry}
use Rattle.nfs_items.specs.Terms.{Name}
use Rattle.fs_spec.specs.Listing.{NamedEntry, IsRising}

-- what rises from a cookie rises from a lower one
pub rising_from : (low low' : ℕ) (es : List NamedEntry) (high : ℕ) → low' ≤ low → IsRising low es high
    → IsRising low' es high
rising_from low low' [] high le h = omega arith
rising_from low low' (e ∷ es) high le h = (omega (arith, h.0), h.1)

-- cookies rise with the next one last
pub rising_pushed : (low : ℕ) (es : List NamedEntry) (high : ℕ) (name : Name) (number : ℕ)
    → IsRising low es high → IsRising low (es ++ (name, (number, high)) ∷ []) (high + 1)
rising_pushed low [] high name number h = (h, omega arith)
rising_pushed low (e ∷ es) high name number h = (h.0, rising_pushed (e.1.1 + 1) es high name number h.1)

-- cookies rise with an entry less
pub rising_removed : (low : ℕ) (test : Name → Bool) (es : List NamedEntry) (high : ℕ) → IsRising low es high
    → IsRising low (remove_entry test es) high
rising_removed low test [] high h = h
rising_removed low test (e ∷ es) high h =
    elim (test e.0) as (λ b. IsRising low (cond b es (e ∷ remove_entry test es)) high) [
      | true ↦ rising_from (e.1.1 + 1) low es high (omega (arith, h.0)) h.1
      | false ↦ (h.0, rising_removed (e.1.1 + 1) test es high h.1)
    ]
