-- What the key of a leaf signs is signed under the root of its tree.
-- Serves: Signer::sign, each_leaf_signs_under_the_root (merkle_keys).
use Rattle.std.proofs.Common.{◌≡◌, ℕ, ◌+◌, ◌^◌, ◌<◌, ◌≤◌, List, arith, refl}
use Rattle.lamport.specs.Lamport.{leaf_hash, shown_hash, shown_secrets, other_hashes}
use Rattle.lamport.proofs.ShownKeys.{one_leaf_hash, signature_shows, key_shows}
use Rattle.merkle_keys.specs.Signing.{SignatureParts, Signed, signature_of}
use Rattle.merkle_keys.specs.Tree.{leaf_key, tree_hash, root, authentication_path}
use Rattle.merkle_keys.specs.declared.signature.TheConstants.{MAX_HEIGHT}
use Rattle.merkle_keys.proofs.StoredTrees.{tree_hash_of_leaf}
use Rattle.merkle_keys.proofs.Paths.{path_ends_in_root, length-authentication_path}

-- what a leaf's key makes of a digest is signed under the root
pub leaf_signature_signs : (master : List ℕ) (height leaf : ℕ) (digest : List ℕ)
    → height ≤ MAX_HEIGHT → leaf < 2 ^ height
    → Signed (root master height) height digest (signature_of master height leaf digest)
unfolding signature_of root
leaf_signature_signs master height leaf digest low within =
    let shown = shown_secrets (leaf_key master leaf) digest in
    let other = other_hashes (leaf_key master leaf) digest in
    let shows_own = key_shows (leaf_key master leaf) digest in
    let own = one_leaf_hash digest shown other _ _ (signature_shows digest shown other) shows_own in
    let start : leaf_hash (shown_hash digest shown other) ≡ tree_hash master 0 leaf =
    tree_hash_of_leaf master leaf _ own in
    let whole : 0 + height ≡ height = omega arith in
    let up = path_ends_in_root master height 0 leaf within in
    record {
      low = low;
      leaf = within;
      levels = length-authentication_path master height 0 leaf;
      leads = rw start (rw whole at up);
    }

-- a signature of these parts is the leaf's
pub signature_of_parts : (master : List ℕ) (height leaf : ℕ) (digest shown other : List ℕ)
    (path : List (List ℕ))
    → shown ≡ shown_secrets (leaf_key master leaf) digest → other ≡ other_hashes (leaf_key master leaf) digest
    → path ≡ authentication_path master 0 leaf height
    → (let made : SignatureParts = record { leaf = leaf; shown = shown; other = other; path = path } in
    made ≡ signature_of master height leaf digest)
unfolding signature_of
signature_of_parts master height leaf digest shown other path a b c = rw (a, b, c) refl
