-- What a key of two leaves signs: its lengths, and that it is signed.
-- Serves: audits.
use Rattle.std.proofs.Common.{◌≡◌, ℕ, zero, suc, ◌<◌, List, [], ◌∷◌, length, get_or, arith}
use Rattle.sha2.proofs.Facts256.{length-sha256}
use Rattle.lamport.specs.Lamport.{leaf_hash}
use Rattle.lamport.proofs.ShownKeys.{length-shown_secrets, length-other_hashes}
use Rattle.xdr.specs.Item.{Fits}
use Rattle.merkle_keys.specs.Tree.{root, leaf_key, tree_hash, inner_hash, sibling, authentication_path}
use Rattle.merkle_keys.specs.Signing.{Signed, signature_item, signature_of, signature_value}
use Rattle.merkle_keys.proofs.LeafSignatures.{leaf_signature_signs}
use Rattle.merkle_keys.proofs.SignatureTexts.{parts_fit}

leaf_length : (secret : List ℕ) (place : ℕ) → length (tree_hash secret 0 place) ≡ 32
unfolding tree_hash leaf_hash
leaf_length secret place = length-sha256 _

-- The root of a tree of two leaves has 32 bytes.
pub root_length : (secret : List ℕ) → length (root secret 1) ≡ 32
unfolding root tree_hash inner_hash
root_length secret = length-sha256 _

-- What one of the two leaves signs has a text.
pub signature_fits : (secret : List ℕ) (leaf : ℕ) (digest : List ℕ) → leaf < 2
    → Fits signature_item (signature_value (signature_of secret 1 leaf digest))
unfolding signature_of authentication_path
signature_fits secret leaf digest low =
    parts_fit leaf _ _ (tree_hash secret 0 (sibling leaf) ∷ []) (omega (arith, low))
    (length-shown_secrets (leaf_key secret leaf) digest) (length-other_hashes (leaf_key secret leaf) digest)
    (omega arith) each
  where
    each : (i : ℕ) → i < length (tree_hash secret 0 (sibling leaf) ∷ [])
        → length (get_or (tree_hash secret 0 (sibling leaf) ∷ []) i []) ≡ 32
    each zero h = leaf_length secret (sibling leaf)
    each (suc i) h = absurd (omega (arith, h))

-- It is signed under the root.
pub leaf_signs : (secret : List ℕ) (leaf : ℕ) (digest : List ℕ) → leaf < 2
    → Signed (root secret 1) 1 digest (signature_of secret 1 leaf digest)
leaf_signs secret leaf digest low =
    leaf_signature_signs secret 1 leaf digest (omega arith) (omega (arith, low))
