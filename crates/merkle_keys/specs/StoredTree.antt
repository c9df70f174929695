-- A tree's hashes in one list: level after level, the leaves first. After the leaves the j-th inner hash
-- is over the hashes 2j and 2j + 1 of the list.
use Rattle.std.specs.Prelude.{◌≡◌, ℕ, ◌+◌, ◌-◌, ◌*◌, ◌^◌, ◌<◌, ◌≤◌, List, [], length, slice_index_or}
use Rattle.lamport.specs.Lamport.{leaf_hash, public_hash}
use Rattle.merkle_keys.specs.Tree.{inner_hash, leaf_key, tree_hash}
use Rattle.merkle_keys.specs.declared.signature.TheConstants.{MAX_HEIGHT}

-- the hash at an index
abbrev pub stored : List (List ℕ) → ℕ → List ℕ
stored hashes k = slice_index_or hashes k []

-- the hashes of the first leaves
pub record HoldsLeaves (master : List ℕ) (leaves : ℕ) (hashes : List (List ℕ)) : Type 0 where
  pub count : length hashes ≡ leaves
  pub each : (k : ℕ) → k < leaves → stored hashes k ≡ tree_hash master 0 k

-- of the leaves from a first one on, the hashes of n
pub record HoldsFirst (master : List ℕ) (first n : ℕ) (hashes : List (List ℕ)) : Type 0 where
  pub each : (k : ℕ) → k < n → stored hashes k ≡ leaf_hash (public_hash (leaf_key master (first + k)))

-- all leaves' hashes and some inner hashes
pub record HoldsTree (master : List ℕ) (leaves inner : ℕ) (hashes : List (List ℕ)) : Type 0 where
  pub count : length hashes ≡ leaves + inner
  pub each : (k : ℕ) → k < leaves → stored hashes k ≡ tree_hash master 0 k
  pub over : (j : ℕ) → j < inner
      → stored hashes (leaves + j) ≡ inner_hash (stored hashes (2 * j)) (stored hashes (2 * j + 1))

-- a signer's fields
pub record IsSigner (master : List ℕ) (height used : ℕ) (hashes : List (List ℕ)) : Type 0 where
  pub some : 1 ≤ height
  pub low : height ≤ MAX_HEIGHT
  pub within : used ≤ 2 ^ height
  pub tree : HoldsTree master (2 ^ height) (2 ^ height - 1) hashes
