-- What a signature shows: the pieces of its two texts are what was put together, what a key signs shows
-- that key, and all keys that one signature shows have one leaf hash.
-- Serves: a_key_shows_itself, a_signature_shows_one_key (lamport); Signer::sign, signed_under_the_key_shown,
-- each_leaf_signs_under_the_root (merkle_keys).
use Rattle.std.proofs.Common.{◌≡◌, ℕ, zero, suc, ◌+◌, ◌*◌, ◌<◌, ◌≤◌, Bool, true, false, not, List, ◌++◌}
use Rattle.std.proofs.Common.{length, drop, refl, sym, ap, ◌∙◌, arith, length-append, length-drop, inl, inr}
use Rattle.std.proofs.lemmas.List.{take-append-le, drop-append-le}
use Rattle.std.proofs.Math.Seq.{take-length, drop-append_seam}
use Rattle.std.proofs.lemmas.Bool.{cases_lt}
use Rattle.sha2.specs.Sha256.{sha256}
use Rattle.sha2.proofs.Facts256.{length-sha256}
use Rattle.lamport.specs.Lamport.{end_to_end, piece, LeafKey, secret, public_hash, digest_bit, leaf_text}
use Rattle.lamport.specs.Lamport.{leaf_hash, shown_hash, shown_secrets, other_hashes, Shows}
use Rattle.lamport.specs.declared.key.TheConstants.{PLACES, TEXT_SIZE}

-- n pieces of 32 bytes
pub length-end_to_end : (f : ℕ → List ℕ) (n : ℕ) → ((i : ℕ) → length (f i) ≡ 32)
    → length (end_to_end f n) ≡ 32 * n
unfolding end_to_end
length-end_to_end f zero each = refl
length-end_to_end f (suc n) each =
    omega (arith, length-append (end_to_end f n) (f n), each n, length-end_to_end f n each)

-- texts are equal where their pieces are
pub end_to_end_same : (f g : ℕ → List ℕ) (n : ℕ) → ((i : ℕ) → i < n → f i ≡ g i)
    → end_to_end f n ≡ end_to_end g n
unfolding end_to_end
end_to_end_same f g zero same = refl
end_to_end_same f g (suc n) same =
    let last : n < suc n = omega arith in
    rw (end_to_end_same f g n (λ i h. same i (omega arith)), same n last) refl

-- a piece of the front
within : (xs ys : List ℕ) (i : ℕ) → 32 * i + 32 ≤ length xs → piece (xs ++ ys) i ≡ piece xs i
unfolding piece
within xs ys i h =
    let start : 32 * i ≤ length xs = omega arith in
    let end : 32 ≤ length (drop (32 * i) xs) = omega (arith, length-drop (32 * i) xs) in
    rw (drop-append-le, take-append-le) refl

-- the piece at the end
last_piece : (xs ys : List ℕ) (i : ℕ) → length xs ≡ 32 * i → length ys ≡ 32 → piece (xs ++ ys) i ≡ ys
unfolding piece
last_piece xs ys i e h = rw (← e, drop-append_seam, ← h, take-length) refl

-- each piece is what was put there
pub piece-end_to_end : (f : ℕ → List ℕ) (n i : ℕ) → ((j : ℕ) → length (f j) ≡ 32) → i < n
    → piece (end_to_end f n) i ≡ f i
unfolding end_to_end
piece-end_to_end f zero i each h = absurd (omega arith)
piece-end_to_end f (suc n) i each h =
    let len = length-end_to_end f n each in
    elim (cases_lt i n) as (λ _. piece (end_to_end f n ++ f n) i ≡ f i) [
      | inl before ↦ within (end_to_end f n) (f n) i (omega arith) ∙ piece-end_to_end f n i each before
      | inr after ↦
          let last : i ≡ n = omega arith in
          rw last (last_piece (end_to_end f n) (f n) n len (each n))
    ]

length-secret : (key : LeafKey) (place : ℕ) (bit : Bool) → length (secret key place bit) ≡ 32
unfolding secret
length-secret key place bit = length-sha256 _

length-public_hash : (key : LeafKey) (place : ℕ) (bit : Bool) → length (public_hash key place bit) ≡ 32
unfolding public_hash
length-public_hash key place bit = length-sha256 _

-- a key's signature has a secret for each place
pub length-shown_secrets : (key : LeafKey) (digest : List ℕ) → length (shown_secrets key digest) ≡ TEXT_SIZE
unfolding shown_secrets
length-shown_secrets key digest =
    length-end_to_end _ PLACES (λ place. length-secret key place (digest_bit digest place))

-- and a hash beside each
pub length-other_hashes : (key : LeafKey) (digest : List ℕ) → length (other_hashes key digest) ≡ TEXT_SIZE
unfolding other_hashes
length-other_hashes key digest =
    length-end_to_end _ PLACES (λ place. length-public_hash key place (not (digest_bit digest place)))

-- what a key signs shows its own public hashes
pub key_shows : (key : LeafKey) (digest : List ℕ)
    → Shows digest (shown_secrets key digest) (other_hashes key digest) (public_hash key)
unfolding shown_secrets other_hashes public_hash
key_shows key digest = record {
  secrets = λ place h. ap sha256
      (piece-end_to_end _ PLACES place (λ i. length-secret key i (digest_bit digest i)) h);
  others = λ place h. piece-end_to_end _ PLACES place
      (λ i. length-public_hash key i (not (digest_bit digest i))) h;
}

-- the hash that a signature gives for the digest's own bit
own_value : (digest shown other : List ℕ) (place : ℕ) (b : Bool) → digest_bit digest place ≡ b
    → sha256 (piece shown place) ≡ shown_hash digest shown other place b
unfolding shown_hash
own_value digest shown other place true e = rw e refl
own_value digest shown other place false e = rw e refl

-- and for the other value
other_value : (digest shown other : List ℕ) (place : ℕ) (b : Bool) → digest_bit digest place ≡ b
    → piece other place ≡ shown_hash digest shown other place (not b)
unfolding shown_hash
other_value digest shown other place true e = rw e refl
other_value digest shown other place false e = rw e refl

-- a signature shows the public hashes that it gives
pub signature_shows : (digest shown other : List ℕ) → Shows digest shown other (shown_hash digest shown other)
signature_shows digest shown other = record {
  secrets = λ place _. own_value digest shown other place (digest_bit digest place) refl;
  others = λ place _. other_value digest shown other place (digest_bit digest place) refl;
}

-- two functions that agree at a bit value and at its opposite agree in the order of the text
same_pair : (d : Bool) (f g : Bool → List ℕ)
    → f d ≡ g d → f (not d) ≡ g (not d) → f false ++ f true ≡ g false ++ g true
same_pair true f g own other = rw (own, other) refl
same_pair false f g own other = rw (own, other) refl

-- keys that one signature shows have one leaf hash
pub one_leaf_hash : (digest shown other : List ℕ) (f g : ℕ → Bool → List ℕ)
    → Shows digest shown other f → Shows digest shown other g → leaf_hash f ≡ leaf_hash g
unfolding leaf_hash leaf_text
one_leaf_hash digest shown other f g a b =
    let both = λ (hash : ℕ → Bool → List ℕ) (place : ℕ). hash place false ++ hash place true in
    let same_at = λ (place : ℕ) (h : place < PLACES).
    let own = sym (a.secrets place h) ∙ b.secrets place h in
    let others = sym (a.others place h) ∙ b.others place h in
    same_pair (digest_bit digest place) (f place) (g place) own others in
    rw (end_to_end_same (both f) (both g) PLACES same_at) refl
