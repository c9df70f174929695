-- The ways up a tree: a place's authentication path leads to the root, and what a step of the code adds to
-- a path or takes from it.
-- Serves: path_end, Signer::path, Signer::sign, each_leaf_signs_under_the_root (merkle_keys).
use Rattle.std.proofs.Common.{◌≡◌, ℕ, zero, suc, ◌+◌, ◌-◌, ◌*◌, ◌/◌, ◌%◌, ◌^◌, ◌<◌, ◌≤◌, cond, eqb, List, []}
use Rattle.std.proofs.Common.{◌∷◌, ◌++◌, length, get_or, drop, refl, ap, ◌∙◌, arith, append_assoc, add-one}
use Rattle.std.proofs.Common.{inl, inr}
use Rattle.std.proofs.lemmas.Bool.{cases_lt}
use Rattle.std.proofs.Math.Nat.{pow-succ'}
use Rattle.std.proofs.Math.ListN.{drop_of_length-le}
use Rattle.std.proofs.Math.Seq.{drop-cons}
use Rattle.merkle_keys.specs.Tree.{tree_hash, sibling, authentication_path, parent_hash, path_end}

-- over an even place and its sibling
even_parent_hash : (master : List ℕ) (level place : ℕ) → place % 2 ≡ 0
    → parent_hash place (tree_hash master level place) (tree_hash master level (sibling place))
    ≡ tree_hash master (suc level) (place / 2)
unfolding parent_hash sibling tree_hash
even_parent_hash master level place even =
    let half : 2 * (place / 2) ≡ place = omega arith in
    rw (even, half) refl

-- over an odd place and its sibling
odd_parent_hash : (master : List ℕ) (level place : ℕ) → place % 2 ≡ 1
    → parent_hash place (tree_hash master level place) (tree_hash master level (sibling place))
    ≡ tree_hash master (suc level) (place / 2)
unfolding parent_hash sibling tree_hash
odd_parent_hash master level place odd =
    let left : 2 * (place / 2) ≡ place - 1 = omega arith in
    let right : place - 1 + 1 ≡ place = omega arith in
    rw (odd, left, right) refl

-- the parent's hash is the tree's, a level up and half as far
parent_hash-tree_hash : (master : List ℕ) (level place : ℕ)
    → parent_hash place (tree_hash master level place) (tree_hash master level (sibling place))
    ≡ tree_hash master (suc level) (place / 2)
parent_hash-tree_hash master level place =
    let own = tree_hash master level place in
    let other = tree_hash master level (sibling place) in
    elim (cases_lt (place % 2) 1) as (λ _. parent_hash place own other
    ≡ tree_hash master (suc level) (place / 2)) [
      | inl low ↦ even_parent_hash master level place (omega arith)
      | inr high ↦ odd_parent_hash master level place (omega arith)
    ]

-- a place's authentication path leads to the root
pub path_ends_in_root : (master : List ℕ) (levels level place : ℕ) → place < 2 ^ levels
    → path_end place (tree_hash master level place) (authentication_path master level place levels)
    ≡ tree_hash master (level + levels) 0
unfolding path_end authentication_path
path_ends_in_root master zero level place low =
    let first : place ≡ 0 = omega arith in
    let same : level + 0 ≡ level = omega arith in
    rw (first, same) refl
path_ends_in_root master (suc levels) level place low =
    let pow : 2 ^ suc levels ≡ 2 * 2 ^ levels = pow-succ' 2 levels in
    let half : place / 2 < 2 ^ levels = omega arith in
    let same : level + suc levels ≡ suc level + levels = omega arith in
    let own = tree_hash master level place in
    let over = parent_hash place own (tree_hash master level (sibling place)) in
    let above = authentication_path master (suc level) (place / 2) levels in
    let step : path_end place own (authentication_path master level place (suc levels))
    ≡ path_end (place / 2) over above = refl in
    let up = ap (λ hash. path_end (place / 2) hash above) (parent_hash-tree_hash master level place) in
    rw same (step ∙ up ∙ path_ends_in_root master levels (suc level) (place / 2) half)

-- a hash for each level
pub length-authentication_path : (master : List ℕ) (levels level place : ℕ)
    → length (authentication_path master level place levels) ≡ levels
unfolding authentication_path
length-authentication_path master zero level place = refl
length-authentication_path master (suc levels) level place =
    ap suc (length-authentication_path master levels (suc level) (place / 2))

-- one step up a path in a list
pub path_end_more : (above : List (List ℕ)) (i place : ℕ) (own : List ℕ) → i < length above
    → path_end place own (drop i above)
    ≡ path_end (place / 2) (parent_hash place own (get_or above i [])) (drop (i + 1) above)
unfolding path_end
path_end_more above i place own h = rw (drop-cons above i [] h, add-one) refl

-- at the end of a path nothing follows
pub path_end_none : (above : List (List ℕ)) (i place : ℕ) (own : List ℕ)
    → length above ≤ i → path_end place own (drop i above) ≡ own
unfolding path_end
path_end_none above i place own h = rw (drop_of_length-le above h) refl

-- one step of an authentication path: a front and the rest make the whole, and so do the front with the
-- next hash
pub authentication_path_more : (master : List ℕ) (front whole : List (List ℕ)) (level place height : ℕ)
    (x : List ℕ)
    → level < height → front ++ authentication_path master level place (height - level) ≡ whole
    → x ≡ tree_hash master level (sibling place)
    → (front ++ x ∷ []) ++ authentication_path master (level + 1) (place / 2) (height - (level + 1)) ≡ whole
unfolding authentication_path
authentication_path_more master front whole level place height x low so_far e =
    let k : height - level ≡ suc (height - (level + 1)) = omega arith in
    let one = rw k at so_far in
    rw (append_assoc, e, add-one) (rw add-one at one)

-- the sibling of a place is within a level of an even number of places
pub sibling-lt : (place half : ℕ) → place < 2 * half → sibling place < 2 * half
unfolding sibling
sibling-lt place half low = elim (cases_lt (place % 2) 1)
    as (λ _. cond (eqb (place % 2) 0) (place + 1) (place - 1) < 2 * half) [
      | inl even ↦ let none : place % 2 ≡ 0 = omega arith in rw none (omega arith)
      | inr odd ↦ let one : place % 2 ≡ 1 = omega arith in rw one (omega arith)
    ]

-- a level has twice as many places as the one above it
pub above_level : (level height : ℕ) → level < height → 2 ^ (height - level) ≡ 2 * 2 ^ (height - (level + 1))
above_level level height h =
    let k : height - level ≡ suc (height - (level + 1)) = omega arith in
    rw k (pow-succ' 2 (height - (level + 1)))

-- no levels, no hashes
pub authentication_path_none : (master : List ℕ) (level place : ℕ)
    → authentication_path master level place 0 ≡ []
unfolding authentication_path
authentication_path_none master level place = refl
