-- Signatures under a tree of one-time keys.
use Rattle.std.specs.Prelude.{◌≡◌, ℕ, ◌^◌, ◌<◌, ◌≤◌, List, length}
use Rattle.lamport.specs.Lamport.{leaf_hash, shown_hash, shown_secrets, other_hashes}
use Rattle.lamport.specs.declared.key.TheConstants.{TEXT_SIZE}
use Rattle.xdr.specs.Item.{Item, word, fixed, pair, array, Value}
use Rattle.merkle_keys.specs.Tree.{leaf_key, authentication_path, path_end}
use Rattle.merkle_keys.specs.declared.signature.TheConstants.{MAX_HEIGHT}

-- what a signature says: its leaf, a secret for each bit of the digest, the public hash of each
-- other bit value, and the leaf's authentication path
pub record SignatureParts : Type 0 where
  pub leaf : ℕ
  pub shown : List ℕ
  pub other : List ℕ
  pub path : List (List ℕ)

-- A signature of a digest under a root of a height: by the public hashes that it gives for the digest,
-- each of the digest's own bits by a secret that it shows, the path from the leaf's hash leads to the
-- root.
pub record Signed (root : List ℕ) (height : ℕ) (digest : List ℕ) (signature : SignatureParts) : Type 0 where
  pub low : height ≤ MAX_HEIGHT
  pub leaf : signature.leaf < 2 ^ height
  pub levels : length signature.path ≡ height
  pub leads :
      let start = leaf_hash (shown_hash digest signature.shown signature.other) in
      path_end signature.leaf start signature.path ≡ root

-- the signature that the key of a leaf makes of a digest
unfoldable pub signature_of : (master : List ℕ) (height leaf : ℕ) (digest : List ℕ) → SignatureParts
signature_of master height leaf digest = record {
  leaf = leaf;
  shown = shown_secrets (leaf_key master leaf) digest;
  other = other_hashes (leaf_key master leaf) digest;
  path = authentication_path master 0 leaf height;
}

-- what a signer is: its master secret, the height of its tree, and how many leaves have signed
pub record SignerState : Type 0 where
  pub master : List ℕ
  pub height : ℕ
  pub used : ℕ

-- The text of a signature (RFC 4506): the leaf's number, the secrets and the hashes beside them, and the
-- path, at most as many hashes as a tree is high.
abbrev pub signature_item : Item
signature_item = pair word (pair (fixed TEXT_SIZE) (pair (fixed TEXT_SIZE) (array MAX_HEIGHT (fixed 32))))

-- what the text says
abbrev pub signature_value : SignatureParts → Value signature_item
signature_value signature = (signature.leaf, (signature.shown, (signature.other, signature.path)))

-- A signature's path leads from the hash at its leaf to the root of this height.
pub record LeadsFrom (start root : List ℕ) (height : ℕ) (signature : SignatureParts) : Type 0 where
  pub low : height ≤ MAX_HEIGHT
  pub leaf : signature.leaf < 2 ^ height
  pub levels : length signature.path ≡ height
  pub leads : path_end signature.leaf start signature.path ≡ root
