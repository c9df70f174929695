-- A leaf's text and a signature's two texts, as far as the first n places: each is empty (or the byte 0) at
-- first, grows by one place's piece, and is the whole at PLACES.
-- Serves: OneTimeKey::leaf_hash, OneTimeKey::texts, add_four, add_four_pairs, pair, piece_hashes, shown_key
-- (lamport).
use Rattle.std.proofs.Common.{◌≡◌, ℕ, zero, suc, ◌+◌, ◌*◌, ◌<◌, Bool, true, false, not, cond, List, [], ◌∷◌}
use Rattle.std.proofs.Common.{◌++◌, length, take, drop, get_or, map, refl, sym, ap, ◌∙◌, append_assoc}
use Rattle.std.proofs.Common.{add-one, arith}
use Rattle.std.proofs.lemmas.List.{append-nil, drop-drop, drop_all, drop_at, take_at}
use Rattle.std.specs.Simd.{first_chunks}
use Rattle.sha2.specs.Sha256.{sha256}
use Rattle.lamport.specs.Lamport.{end_to_end, piece, LeafKey, secret, public_hash, digest_bit, leaf_text}
use Rattle.lamport.specs.Lamport.{leaf_hash, shown_hash, shown_secrets, other_hashes}
use Rattle.lamport.specs.declared.key.TheConstants.{PLACES}
use borrow.Rule.Slice.PartMut.{put_mid}

-- no pieces
pub end_to_end_none : (f : ℕ → List ℕ) → end_to_end f 0 ≡ []
unfolding end_to_end
end_to_end_none f = refl

-- one more piece at the end
pub end_to_end_more : (f : ℕ → List ℕ) (n : ℕ) → end_to_end f (n + 1) ≡ end_to_end f n ++ f n
unfolding end_to_end
end_to_end_more f n = rw add-one refl

-- four more pieces at the end
pub end_to_end_four : (f : ℕ → List ℕ) (n : ℕ)
    → end_to_end f (n + 4) ≡ (((end_to_end f n ++ f n) ++ f (n + 1)) ++ f (n + 2)) ++ f (n + 3)
end_to_end_four f n =
    let n2 : n + 2 ≡ n + 1 + 1 = omega arith in
    let n3 : n + 3 ≡ n + 2 + 1 = omega arith in
    let n4 : n + 4 ≡ n + 3 + 1 = omega arith in
    let to = λ (k : ℕ). end_to_end f k in
    let two = ap to n2 ∙ end_to_end_more f (n + 1)
    ∙ ap (λ (l : List ℕ). l ++ f (n + 1)) (end_to_end_more f n) in
    let three = ap to n3 ∙ end_to_end_more f (n + 2) ∙ ap (λ (l : List ℕ). l ++ f (n + 2)) two in
    ap to n4 ∙ end_to_end_more f (n + 3) ∙ ap (λ (l : List ℕ). l ++ f (n + 3)) three

-- the digests of the pieces that a text is cut into
pub chunk_hash : (count : ℕ) (bytes : List ℕ) (place : ℕ) → place < count
    → get_or (map sha256 (first_chunks 32 count bytes)) place [] ≡ sha256 (piece bytes place)
unfolding piece
chunk_hash zero bytes place h = absurd (omega arith)
chunk_hash (suc count) bytes zero h = refl
chunk_hash (suc count) bytes (suc place) h =
    chunk_hash count (drop 32 bytes) place (omega arith)
    ∙ ap (λ (l : List ℕ). sha256 (take 32 l)) (drop-drop (32 * place) 32 bytes)
    ∙ ap (λ (k : ℕ). sha256 (take 32 (drop k bytes))) (omega arith)

-- a leaf's text as far as n places, after the byte 0
unfoldable pub leaf_front : (ℕ → Bool → List ℕ) → ℕ → List ℕ
leaf_front hash n = 0 ∷ end_to_end (λ place. hash place false ++ hash place true) n

-- before the first place stands the byte 0
pub leaf_front_none : (hash : ℕ → Bool → List ℕ) → leaf_front hash 0 ≡ 0 ∷ []
unfolding leaf_front
leaf_front_none hash = rw end_to_end_none refl

-- a place adds both its public hashes
pub leaf_front_more : (hash : ℕ → Bool → List ℕ) (n : ℕ)
    → leaf_front hash (n + 1) ≡ (leaf_front hash n ++ hash n false) ++ hash n true
unfolding leaf_front
leaf_front_more hash n =
    let both = λ (place : ℕ). hash place false ++ hash place true in
    rw (end_to_end_more both n) (sym (append_assoc (0 ∷ end_to_end both n) (hash n false) (hash n true)))

-- the digest of all places is the leaf's hash
pub leaf_front_all : (hash : ℕ → Bool → List ℕ) → leaf_hash hash ≡ sha256 (leaf_front hash PLACES)
unfolding leaf_hash leaf_text leaf_front
leaf_front_all hash = refl

-- the secrets that a key shows in the places before n
unfoldable pub shown_front : LeafKey → List ℕ → ℕ → List ℕ
shown_front key digest n = end_to_end (λ place. secret key place (digest_bit digest place)) n

-- the hashes beside them
unfoldable pub other_front : LeafKey → List ℕ → ℕ → List ℕ
other_front key digest n = end_to_end (λ place. public_hash key place (not (digest_bit digest place))) n

-- none before the first place
pub shown_front_none : (key : LeafKey) (digest : List ℕ) → shown_front key digest 0 ≡ []
unfolding shown_front
shown_front_none key digest = end_to_end_none _

-- none before the first place
pub other_front_none : (key : LeafKey) (digest : List ℕ) → other_front key digest 0 ≡ []
unfolding other_front
other_front_none key digest = end_to_end_none _

-- a place adds the secret of the digest's bit
pub shown_front_more : (key : LeafKey) (digest : List ℕ) (n : ℕ)
    → shown_front key digest (n + 1) ≡ shown_front key digest n ++ secret key n (digest_bit digest n)
unfolding shown_front
shown_front_more key digest n = end_to_end_more (λ place. secret key place (digest_bit digest place)) n

-- a place adds the hash of the other value
pub other_front_more : (key : LeafKey) (digest : List ℕ) (n : ℕ)
    → other_front key digest (n + 1)
    ≡ other_front key digest n ++ public_hash key n (not (digest_bit digest n))
unfolding other_front
other_front_more key digest n =
    end_to_end_more (λ place. public_hash key place (not (digest_bit digest place))) n

-- all places are what the definition says
pub shown_front_all : (key : LeafKey) (digest : List ℕ)
    → shown_secrets key digest ≡ shown_front key digest PLACES
unfolding shown_secrets shown_front
shown_front_all key digest = refl

-- all places are what the definition says
pub other_front_all : (key : LeafKey) (digest : List ℕ)
    → other_hashes key digest ≡ other_front key digest PLACES
unfolding other_hashes other_front
other_front_all key digest = refl

-- the two hashes of a place in the order of the text
pub shown_pair : (digest shown other : List ℕ) (n : ℕ)
    → shown_hash digest shown other n false ++ shown_hash digest shown other n true
    ≡ cond (digest_bit digest n) (piece other n ++ sha256 (piece shown n))
    (sha256 (piece shown n) ++ piece other n)
unfolding shown_hash
shown_pair digest shown other n = by_bit (digest_bit digest n) (sha256 (piece shown n)) (piece other n)
  where
    by_bit : (b : Bool) (own beside : List ℕ)
        → cond b beside own ++ cond b own beside ≡ cond b (beside ++ own) (own ++ beside)
    by_bit true own beside = refl
    by_bit false own beside = refl

-- two halves that are set after one another
pub halves : (a b x y zeros : List ℕ) → length a ≡ 32 → length zeros ≡ 32 → x ≡ a → y ≡ b
    → put_mid 32 32 (x ++ zeros) y ≡ a ++ b
halves a b x y zeros la lz ex ey =
    let front : take 32 (a ++ zeros) ≡ a = take_at a zeros 32 la in
    let none : drop 32 (drop 32 (a ++ zeros)) ≡ [] = ap (drop 32) (drop_at a zeros 32 la)
    ∙ drop_all 32 zeros (omega arith) in
    (λ i. put_mid 32 32 (ex i ++ zeros) (ey i)) ∙ (λ i. front i ++ (b ++ none i))
    ∙ ap (λ (l : List ℕ). a ++ l) (append-nil b)
