-- Where cookies rise, the entries above a cookie are those after a point, which a binary search finds.
-- Serves: `Directory::entries_above`.
use Rattle.std.proofs.Common.{◌≡◌, ℕ, zero, suc, ◌+◌, ◌≤◌, ◌<◌, true, false, List, [], ◌∷◌, length, map, drop}
use Rattle.std.proofs.Common.{get_or, leb, ltb, refl, sym, ap, ◌∙◌, arith}
use Rattle.std.proofs.lemmas.Bool.{leb-true, leb-false, lt-ltb, le-ltb, cond-true, cond-false}
use Rattle.std.specs.List.{filter}
use Rattle.std.specs.List.Sorted.{IsNonDecreasingBy, IsPartitionPoint}
use Rattle.nfs_spec.specs.fs_spec.Listing.{NamedEntry, IsRising, entry_cookie}
use Rattle.nfs_spec.specs.nfs_types.Calls.{PageEntry}
use Rattle.nfs_spec.specs.Readdir.{page_entry}

module _ {X : Type 0} (f : X → NamedEntry) where
  -- no cookie is below the first
  at_least : (low : ℕ) (xs : List X) (high : ℕ) → IsRising low (map f xs) high → (j : ℕ) (d : X)
      → j < length xs → low ≤ entry_cookie (f (get_or xs j d))
  at_least low [] high up j d lt = omega (arith, lt)
  at_least low (x ∷ xs) high up zero d lt = up.0
  at_least low (x ∷ xs) high up (suc j) d lt =
      omega (arith, up.0, at_least (entry_cookie (f x) + 1) xs high up.1 j d (omega (arith, lt)))

  -- rising cookies are in order
  pub in_order : (low : ℕ) (xs : List X) (high : ℕ) → IsRising low (map f xs) high
      → IsNonDecreasingBy (λ x. entry_cookie (f x)) xs
  in_order low [] high up i j d le lt = omega (arith, lt)
  in_order low (x ∷ xs) high up zero zero d le lt = omega arith
  in_order low (x ∷ xs) high up zero (suc j) d le lt =
      omega (arith, at_least (entry_cookie (f x) + 1) xs high up.1 j d (omega (arith, lt)))
  in_order low (x ∷ xs) high up (suc i) zero d le lt = omega (arith, le)
  in_order low (x ∷ xs) high up (suc i) (suc j) d le lt =
      in_order (entry_cookie (f x) + 1) xs high up.1 i j d (omega (arith, le)) (omega (arith, lt))

  -- what lies after the point is what is above
  pub after_point : (c k : ℕ) (xs : List X)
      → IsPartitionPoint (λ x. leb (entry_cookie (f x)) c ≡ true)
      (λ x. leb (entry_cookie (f x)) c ≡ false) xs k
      → map page_entry (map f (drop k xs))
      ≡ filter (λ (e : PageEntry). ltb c e.cookie) (map page_entry (map f xs))
  after_point c zero [] point = refl
  after_point c (suc k) [] point = refl
  after_point c zero (x ∷ xs) point =
      let above = leb-false (entry_cookie (f x)) c (point.1 0 x (omega arith) (omega arith)) in
      ap (λ l. page_entry (f x) ∷ l)
      (after_point c 0 xs (
        λ i d le lt. absurd (omega (arith, lt)),
        λ i d le lt. point.1 (suc i) d (omega arith) (omega (arith, lt)),
      ))
      ∙ sym (cond-true _ _ _ (lt-ltb c (entry_cookie (f x)) above))
  after_point c (suc k) (x ∷ xs) point =
      let below = leb-true (entry_cookie (f x)) c (point.0 0 x (omega arith) (omega arith)) in
      after_point c k xs (
        λ i d le lt. point.0 (suc i) d (omega arith) (omega (arith, lt)),
        λ i d le lt. point.1 (suc i) d (omega (arith, le)) (omega (arith, lt)),
      )
      ∙ sym (cond-false _ _ _ (le-ltb c (entry_cookie (f x)) below))
