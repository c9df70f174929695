-- Values are told by the digests of their spellings.
-- Serves: digests_tell_states.
use Rattle.std.proofs.Common.{◌≡◌, inl, inr, ℕ, List, [], ◌∷◌, ◌++◌, map, refl, ap}
use Rattle.std.specs.List.{AllByRecursion}
use Rattle.sha2.specs.Sha256.{sha256}
use Rattle.sha2.proofs.Facts256.{length-sha256}
use Rattle.nfs_items.specs.xdr.Item.{Item, Value, Fits, fixed, spelling}
use Rattle.nfs_items.proofs.xdr.Exact.{one_meaning}
use Rattle.secure_log.specs.LogEntries.Chain.{IsAmong, NoCollision}

module _ {A : Type 0} (item : Item) (value : A → Value item) where
  abbrev text : A → List ℕ
  text x = spelling item (value x)

  abbrev digest : A → List ℕ
  digest x = sha256 (text x)

  -- the digests of values have 32 bytes each
  pub digests_fit : (xs : List A) → AllByRecursion (Fits (fixed 32)) (map digest xs)
  digests_fit [] = tt
  digests_fit (x ∷ xs) = (length-sha256 (text x), digests_fit xs)

  -- values whose digests are the same are the same, where their texts don't collide
  pub same_values : (all : List (List ℕ)) → NoCollision all → (xs ys : List A)
      → AllByRecursion (Fits item) (map value xs) → AllByRecursion (Fits item) (map value ys)
      → ((t : List ℕ) → IsAmong t (map text xs) → IsAmong t all)
      → ((t : List ℕ) → IsAmong t (map text ys) → IsAmong t all)
      → map digest xs ≡ map digest ys → map value xs ≡ map value ys
  same_values all unlike [] [] f g i j same = refl
  same_values all unlike [] (y ∷ ys) f g i j same = absurd cc
  same_values all unlike (x ∷ xs) [] f g i j same = absurd cc
  same_values all unlike (x ∷ xs) (y ∷ ys) f g i j same =
      let first : digest x ≡ digest y = cc in
      let rest : map digest xs ≡ map digest ys = cc in
      let text_is = unlike (text x) (text y) (i (text x) (inl refl)) (j (text y) (inl refl)) first in
      let one = one_meaning item (value x) (value y) [] [] f.0 g.0 (ap (λ (t : List ℕ). t ++ []) text_is) in
      let more = same_values all unlike xs ys f.1 g.1 (λ t k. i t (inr k)) (λ t k. j t (inr k)) rest in
      λ n. one.0 n ∷ more n
