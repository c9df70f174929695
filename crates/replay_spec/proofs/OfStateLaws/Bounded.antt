-- How long spellings are at most.
-- Serves: digests_tell_states.
use Rattle.std.proofs.Common.{ℕ, ◌+◌, ◌-◌, ◌*◌, ◌%◌, ◌≤◌, List, [], ◌∷◌, ◌++◌, length}
use Rattle.std.proofs.Common.{ap, arith, length-append, mul-le-mul_right}
use Rattle.std.proofs.lemmas.List.{length-replicate}
use Rattle.std.specs.List.{flat_map, AllByRecursion}
use Rattle.std.proofs.lemmas.List.Concat.{flat_map-cons}
use Rattle.nfs_items.specs.xdr.Item.{Item, Value, Fits, word, hyper, fixed, opaque, pair, array, padding}
use Rattle.nfs_items.specs.xdr.Item.{spelling, number_spelling}
use Rattle.nfs_items.proofs.xdr.Front.{length-number_spelling}

-- no spelling of the item is longer
abbrev pub IsShort : Item → ℕ → Type 0
IsShort a m = (v : Value a) → Fits a v → length (spelling a v) ≤ m

-- the zeros that fill bytes up to a multiple of four are at most 3
pub short_padding : (n : ℕ) → length (padding n) ≤ 3
short_padding n = omega (arith, length-replicate {A = ℕ} ((4 - n % 4) % 4) 0)

-- a word takes at most 4 bytes
pub short_word : IsShort word 4
short_word v h = omega (arith, length-number_spelling 4 v)

-- a hyper takes at most 8
pub short_hyper : IsShort hyper 8
short_hyper v h = omega (arith, length-number_spelling 8 v)

-- n bytes without their count take at most n + 3
pub short_fixed : (n : ℕ) → IsShort (fixed n) (n + 3)
short_fixed n v h = omega (arith, length-append v (padding n), short_padding n, h)

-- up to n bytes with their count take at most n + 7
pub short_opaque : (n : ℕ) → IsShort (opaque n) (4 + (n + 3))
short_opaque n v h =
    omega (
      arith,
      length-append (number_spelling 4 (length v)) (v ++ padding (length v)),
      length-number_spelling 4 (length v),
      length-append v (padding (length v)),
      short_padding (length v),
      h.1,
    )

-- a pair takes at most what its two items take together
pub short_pair : (a b : Item) (m n : ℕ) → IsShort a m → IsShort b n → IsShort (pair a b) (m + n)
short_pair a b m n h k v fits =
    omega (arith, length-append (spelling a v.0) (spelling b v.1), h v.0 fits.0, k v.1 fits.1)

short_all : (a : Item) (m : ℕ) → IsShort a m → (vs : List (Value a)) → AllByRecursion (Fits a) vs
    → length (flat_map (spelling a) vs) ≤ length vs * m
short_all a m h [] all = omega arith
short_all a m h (v ∷ vs) all =
    omega (
      arith,
      ap (λ (x : List ℕ). length x) (flat_map-cons (spelling a) v vs),
      length-append (spelling a v) (flat_map (spelling a) vs),
      h v all.0,
      short_all a m h vs all.1,
    )

-- up to k values with their count take at most 4 bytes and k times what one takes
pub short_array : (k : ℕ) (a : Item) (m : ℕ) → IsShort a m → IsShort (array k a) (4 + k * m)
short_array k a m h vs fits =
    omega (
      arith,
      length-append (number_spelling 4 (length vs)) (flat_map (spelling a) vs),
      length-number_spelling 4 (length vs),
      short_all a m h vs fits.2,
      mul-le-mul_right m fits.1,
    )

-- ---- how long lists of items are at least

-- there are no more values than bytes that spell them, where each takes at least one
pub counted : (a : Item) → ((v : Value a) → 1 ≤ length (spelling a v)) → (vs : List (Value a))
    → length vs ≤ length (flat_map (spelling a) vs)
counted a h [] = omega arith
counted a h (v ∷ vs) =
    omega (
      arith,
      ap (λ (x : List ℕ). length x) (flat_map-cons (spelling a) v vs),
      length-append (spelling a v) (flat_map (spelling a) vs),
      h v,
      counted a h vs,
    )
