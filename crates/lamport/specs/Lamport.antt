-- One-time keys over SHA-256 (FIPS 180-4), after L. Lamport, Constructing digital signatures from a
-- one way function, 1979. A key signs a digest of 256 bits by showing one secret for each of them.
use Rattle.std.specs.Prelude.{◌≡◌, ℕ, zero, suc, ◌-◌, ◌*◌, ◌/◌, ◌%◌, ◌<◌, Bool, true, false, not, List, []}
use Rattle.std.specs.Prelude.{◌∷◌, ◌++◌, take, drop, slice_index, ◌==◌, if◌then◌else◌}
use Rattle.std.specs.Int.{w32, bit_at, to_be_bytes}
use Rattle.sha2.specs.Sha256.{sha256}
use Rattle.lamport.specs.declared.key.TheConstants.{PLACES}

-- the bytes that f gives at 0, 1, .. n - 1, one after the other
unfoldable pub end_to_end : (ℕ → List ℕ) → ℕ → List ℕ
end_to_end f zero = []
end_to_end f (suc n) = end_to_end f n ++ f n

-- the 32 bytes at a place: those of the place's secret or hash in a signature's texts
unfoldable pub piece : List ℕ → ℕ → List ℕ
piece bytes place = take 32 (drop (32 * place) bytes)

-- a number in four bytes, high byte first
unfoldable pub word_bytes : ℕ → List ℕ
word_bytes n = to_be_bytes w32 n

-- the bit of a digest at a place from 0 to 255: place 0 is the highest bit of its first byte
unfoldable pub digest_bit : List ℕ → ℕ → Bool
digest_bit digest place = bit_at (slice_index digest (place / 8)) (7 - place % 8) == 1

-- what a one-time key is: a master secret, and the number of its leaf in the tree of keys
pub record LeafKey : Type 0 where
  pub master : List ℕ
  pub leaf : ℕ

-- what a master secret's keys are: the secret, and the number of the leaf whose key comes next
pub record KeysToCome : Type 0 where
  pub master : List ℕ
  pub next : ℕ

-- the secret of a place and bit value
unfoldable pub secret : LeafKey → ℕ → Bool → List ℕ
secret key place bit =
    sha256 (key.master ++ word_bytes key.leaf ++ word_bytes place ++ word_bytes (if bit then 1 else 0))

-- its public hash
unfoldable pub public_hash : LeafKey → ℕ → Bool → List ℕ
public_hash key place bit = sha256 (secret key place bit)

-- The public text of a leaf with these public hashes: all 512, by place, value 0 before 1.
unfoldable pub leaf_text : (ℕ → Bool → List ℕ) → List ℕ
leaf_text hash = end_to_end (λ place. hash place false ++ hash place true) PLACES

-- the hash of that leaf in a tree of keys: the digest of the byte 0 and the text
unfoldable pub leaf_hash : (ℕ → Bool → List ℕ) → List ℕ
leaf_hash hash = sha256 (0 ∷ leaf_text hash)

-- What a key's signature of a digest shows: for each bit the secret of that place and value.
unfoldable pub shown_secrets : LeafKey → List ℕ → List ℕ
shown_secrets key digest = end_to_end (λ place. secret key place (digest_bit digest place)) PLACES

-- what stands beside them in the signature: the public hash of each other value
unfoldable pub other_hashes : LeafKey → List ℕ → List ℕ
other_hashes key digest = end_to_end (λ place. public_hash key place (not (digest_bit digest place))) PLACES

-- The public hashes that a signature of a digest gives: for the digest's own bit the hash of the
-- secret shown at its place, for the other value the hash beside it.
unfoldable pub shown_hash : (digest shown other : List ℕ) → ℕ → Bool → List ℕ
shown_hash digest shown other place true =
    if digest_bit digest place then sha256 (piece shown place) else piece other place
shown_hash digest shown other place false =
    if digest_bit digest place then piece other place else sha256 (piece shown place)

-- A signature of a digest shows a key with these public hashes: of each bit of the digest a secret
-- with the public hash of that place and value, and beside it the public hash of the other value.
pub record Shows (digest shown other : List ℕ) (hash : ℕ → Bool → List ℕ) : Type 0 where
  pub secrets : (place : ℕ) → place < PLACES
      → sha256 (piece shown place) ≡ hash place (digest_bit digest place)
  pub others : (place : ℕ) → place < PLACES
      → piece other place ≡ hash place (not (digest_bit digest place))
