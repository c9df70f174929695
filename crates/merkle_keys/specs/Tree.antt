-- Trees of one-time keys over SHA-256, after R. Merkle, A certified digital signature, 1989.
use Rattle.std.specs.Prelude.{ℕ, zero, suc, ◌+◌, ◌-◌, ◌*◌, ◌/◌, ◌%◌, List, [], ◌∷◌, ◌++◌, ◌==◌, if◌then◌else◌}
use Rattle.sha2.specs.Sha256.{sha256}
use Rattle.lamport.specs.Lamport.{LeafKey, public_hash, leaf_hash}

-- the key of a leaf
abbrev pub leaf_key : List ℕ → ℕ → LeafKey
leaf_key master leaf = record { master = master; leaf = leaf }

-- the hash over two hashes: the digest of the byte 1, the left and the right
unfoldable pub inner_hash : List ℕ → List ℕ → List ℕ
inner_hash left right = sha256 (1 ∷ left ++ right)

-- The hash at a level and place of a master secret's tree. Level 0 has the leaves.
unfoldable pub tree_hash : List ℕ → ℕ → ℕ → List ℕ
tree_hash master zero place = leaf_hash (public_hash (leaf_key master place))
tree_hash master (suc level) place =
    inner_hash (tree_hash master level (2 * place)) (tree_hash master level (2 * place + 1))

-- the public key of a master secret at a height
unfoldable pub root : List ℕ → ℕ → List ℕ
root master height = tree_hash master height 0

-- the place that shares its parent with this one
unfoldable pub sibling : ℕ → ℕ
sibling place = if place % 2 == 0 then place + 1 else place - 1

-- The authentication path of a place: the hashes at the siblings on the way up, through so many levels,
-- the lowest first.
unfoldable pub authentication_path : List ℕ → ℕ → ℕ → ℕ → List (List ℕ)
authentication_path master level place zero = []
authentication_path master level place (suc levels) =
    tree_hash master level (sibling place) ∷ authentication_path master (suc level) (place / 2) levels

-- the hash over a place's own and its sibling's: an even place is the left one
unfoldable pub parent_hash : ℕ → List ℕ → List ℕ → List ℕ
parent_hash place own other = if place % 2 == 0 then inner_hash own other else inner_hash other own

-- Where a path leads from a hash at a place: the last of the hashes on the way up.
unfoldable pub path_end : ℕ → List ℕ → List (List ℕ) → List ℕ
path_end place own [] = own
path_end place own (other ∷ above) = path_end (place / 2) (parent_hash place own other) above
