-- A tree's hashes in one list: how the list grows hash by hash, and where the hash of a level and place
-- stands.
-- Serves: leaf_hashes, leaf_hashes_by, add_inner_hashes, Signer::root, Signer::path (merkle_keys).
use Rattle.std.proofs.Common.{◌≡◌, ℕ, zero, suc, ◌+◌, ◌-◌, ◌*◌, ◌^◌, ◌<◌, ◌≤◌, List, [], ◌∷◌, ◌++◌, length}
use Rattle.std.proofs.Common.{get_or, refl, ap, ◌∙◌, arith, length-append, inl, inr}
use Rattle.std.proofs.lemmas.List.{get_or_append_left, get_or-append-add}
use Rattle.std.proofs.lemmas.Bool.{cases_lt}
use Rattle.std.proofs.Math.Nat.{pow-succ', one-le-pow}
use Rattle.std.proofs.Math.Pow.{pow_mono}
use Rattle.lamport.specs.Lamport.{public_hash, leaf_hash}
use Rattle.merkle_keys.specs.Tree.{leaf_key, inner_hash, tree_hash, root}
use Rattle.merkle_keys.specs.StoredTree.{HoldsLeaves, HoldsTree}

-- the hash of a leaf's key is the tree's at level 0
pub tree_hash_of_leaf : (master : List ℕ) (leaf : ℕ) (x : List ℕ)
    → x ≡ leaf_hash (public_hash (leaf_key master leaf)) → x ≡ tree_hash master 0 leaf
unfolding tree_hash
tree_hash_of_leaf master leaf x e = e

-- as many as the leaves, each the hash of its leaf
pub leaves_of_each : (master : List ℕ) (n : ℕ) (xs : List (List ℕ)) → length xs ≡ n
    → ((k : ℕ) → k < length xs → get_or xs k [] ≡ leaf_hash (public_hash (leaf_key master k)))
    → HoldsLeaves master n xs
leaves_of_each master n xs count each = record {
  count = count;
  each = λ k h. tree_hash_of_leaf master k _ (each k (omega arith));
}

-- what is read below the end is read after one more
below_end : (xs : List (List ℕ)) (x : List ℕ) (k : ℕ) → k < length xs
    → get_or (xs ++ x ∷ []) k [] ≡ get_or xs k []
below_end xs x k h = get_or_append_left xs (x ∷ []) [] k h

-- what was added is read at the end
at_end : (xs : List (List ℕ)) (x : List ℕ) (n : ℕ) → length xs ≡ n → get_or (xs ++ x ∷ []) n [] ≡ x
at_end xs x n e =
    let seam = get_or-append-add xs (x ∷ []) 0 [] in
    let same : length xs + 0 ≡ n = omega arith in
    rw (← same) seam

-- all leaves and no inner hash
pub no_inner : (master : List ℕ) (leaves : ℕ) (xs : List (List ℕ))
    → HoldsLeaves master leaves xs → HoldsTree master leaves 0 xs
no_inner master leaves xs whole = record {
  count = omega (arith, whole.count);
  each = whole.each;
  over = λ j h. absurd (omega arith);
}

-- one inner hash more
pub more_inner : (master : List ℕ) (leaves n : ℕ) (xs : List (List ℕ)) (x : List ℕ) → n + 1 < leaves
    → HoldsTree master leaves n xs → x ≡ inner_hash (get_or xs (2 * n) []) (get_or xs (2 * n + 1) [])
    → HoldsTree master leaves (n + 1) (xs ++ x ∷ [])
more_inner master leaves n xs x few so_far e = record {
  count = omega (arith, length-append xs (x ∷ []), so_far.count);
  each = λ k h. below_end xs x k (omega (arith, so_far.count)) ∙ so_far.each k h;
  over = λ j h.
      let left = below_end xs x (2 * j) (omega (arith, so_far.count)) in
      let right = below_end xs x (2 * j + 1) (omega (arith, so_far.count)) in
      let Over = λ (at : List (List ℕ)). get_or at (leaves + j) []
      ≡ inner_hash (get_or xs (2 * j) []) (get_or xs (2 * j + 1) []) in
      rw (left, right) (elim (cases_lt j n) as (λ _. Over (xs ++ x ∷ [])) [
        | inl before ↦ below_end xs x (leaves + j) (omega (arith, so_far.count)) ∙ so_far.over j before
        | inr after ↦ let last : j ≡ n = omega arith in rw last (at_end xs x (leaves + n) so_far.count ∙ e)
      ]);
}

-- The hash of a level and place, m levels below the root, stands at the index e with
-- e + 2 * 2 ^ m ≡ 2 * 2 ^ height + place.
pub tree_hash_at : (master : List ℕ) (hashes : List (List ℕ)) (height : ℕ)
    → HoldsTree master (2 ^ height) (2 ^ height - 1) hashes
    → (level m place e : ℕ) → level + m ≡ height → e + 2 * 2 ^ m ≡ 2 * 2 ^ height + place → place < 2 ^ m
    → get_or hashes e [] ≡ tree_hash master level place
unfolding tree_hash
tree_hash_at master hashes height tree zero m place e rest here low =
    let same : m ≡ height = omega arith in
    let pow : 2 ^ m ≡ 2 ^ height = ap (λ k. 2 ^ k) same in
    let is_leaf : e ≡ place = omega arith in
    let within : place < 2 ^ height = omega arith in
    rw is_leaf (tree.each place within)
tree_hash_at master hashes height tree (suc level) m place e rest here low =
    let pow : 2 ^ suc m ≡ 2 * 2 ^ m = pow-succ' 2 m in
    let above : suc m ≤ height = omega arith in
    let small : 2 ^ suc m ≤ 2 ^ height = pow_mono above in
    let here_too : 2 ^ height + (e - 2 ^ height) ≡ e = omega arith in
    let inner : e - 2 ^ height < 2 ^ height - 1 = omega arith in
    let lower = tree_hash_at master hashes height tree level (suc m) in
    let left = lower (2 * place) (2 * (e - 2 ^ height)) (omega arith) (omega arith) (omega arith) in
    let right = lower (2 * place + 1) (2 * (e - 2 ^ height) + 1) (omega arith) (omega arith) (omega arith) in
    let over = tree.over (e - 2 ^ height) inner in
    let whole : get_or hashes (2 ^ height + (e - 2 ^ height)) []
    ≡ inner_hash (tree_hash master level (2 * place)) (tree_hash master level (2 * place + 1)) =
    rw (over, left, right) refl in
    rw here_too at whole

-- the root is the last hash
pub root_at : (master : List ℕ) (hashes : List (List ℕ)) (height : ℕ)
    → HoldsTree master (2 ^ height) (2 ^ height - 1) hashes
    → get_or hashes (length hashes - 1) [] ≡ root master height
unfolding root
root_at master hashes height tree =
    let some : 1 ≤ 2 ^ height = one-le-pow height 2 (omega arith) in
    tree_hash_at master hashes height tree height 0 0 (length hashes - 1) (omega arith)
    (omega (arith, tree.count)) (omega arith)

-- a level's hash at a place, where the level begins at the index `first`
pub level_hash_at : (master : List ℕ) (hashes : List (List ℕ)) (height : ℕ)
    → HoldsTree master (2 ^ height) (2 ^ height - 1) hashes
    → (level first place : ℕ) → level < height
    → first + 2 * 2 ^ (height - level) ≡ 2 * 2 ^ height → place < 2 ^ (height - level)
    → get_or hashes (first + place) [] ≡ tree_hash master level place
level_hash_at master hashes height tree level first place below at low =
    let m = height - level in
    tree_hash_at master hashes height tree level m place (first + place) (omega arith) (omega arith) low
