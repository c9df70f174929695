-- The digest of a signature's text that is zeros, but for the count of its path: worked out block by block.
-- Serves: served_premises_are_possible.
use Rattle.std.proofs.Common.{◌≡◌, ℕ, zero, suc, ◌+◌, ◌*◌, ◌-◌, ◌/◌, ◌<◌, ◌≤◌, List, [], ◌∷◌, ◌++◌, length}
use Rattle.std.proofs.Common.{take, drop, replicate, refl, sym, ap, ap₂, ◌∙◌, arith, append_assoc, append-nil}
use Rattle.std.proofs.lemmas.List.{length-append, length-replicate, replicate-append-replicate}
use Rattle.std.proofs.lemmas.List.{drop-replicate, take-replicate, drop-append-le, take-append-le}
use Rattle.sha2.specs.Sha256.{first_words, schedule, rounds, add_state, compress, hash_after, digest_bytes}
use Rattle.sha2.specs.Sha256.{sha256, initial_hash_256, padding, padded_message}
use Rattle.sha2.proofs.Absorbing256.{hash_after_next}
use Rattle.xdr.specs.Item.{number_spelling, spelling}
use Rattle.merkle_keys.specs.Signing.{signature_item, signature_value}
use Rattle.secure_log.specs.LogEntries.Signatures.{signature_digest}
use Rattle.witness_examples.specs.Signed.Served.{zero_text, call_signature}

-- ---- blocks of zeros

-- a block of zeros
abbrev zero_block : List ℕ
zero_block = replicate 64 0

-- its words, which are zeros too
abbrev no_words : List ℕ
no_words = replicate 64 0

words_are : schedule zero_block 48 ≡ no_words
unfolding first_words schedule
words_are = refl

-- the hash value after one more such block
abbrev one_more : List ℕ → List ℕ
one_more h = add_state h (rounds h no_words 64)

is_one_more : (h : List ℕ) → compress h zero_block ≡ one_more h
unfolding compress
is_one_more h = ap (λ w. add_state h (rounds h w 64)) words_are

-- the hash value after so many of them, from a hash value
after_zeros : List ℕ → ℕ → List ℕ
after_zeros h zero = h
after_zeros h (suc n) = one_more (after_zeros h n)

-- the hash value after 256 of them
abbrev after_256 : List ℕ
after_256 =
    0xFF3DB09F ∷ 0x16F50A32 ∷ 0x060F2CC8 ∷ 0x5CD0C6AE ∷
    0x508B2392 ∷ 0x93F6087A ∷ 0xDFE52046 ∷ 0xF510BC27 ∷ []

whole : after_zeros initial_hash_256 256 ≡ after_256
unfolding after_zeros rounds
whole = refl

-- ---- a text that begins with as many zeros as whole blocks have

module _ (k : ℕ) where
  -- so many blocks of zeros, and what stands after them
  abbrev long : List ℕ → List ℕ
  long last = replicate (k * 64) 0 ++ last

  left_after : (n : ℕ) (last : List ℕ) → n ≤ k
      → drop (n * 64) (long last) ≡ replicate (k * 64 - n * 64) 0 ++ last
  left_after n last low =
      drop-append-le (n * 64) (replicate (k * 64) 0) last
      (omega (arith, low, length-replicate {A = ℕ} (k * 64) 0))
      ∙ ap (λ xs. xs ++ last) (drop-replicate (n * 64) (k * 64) 0)

  block_is : (n : ℕ) (last : List ℕ) → n < k → take 64 (drop (n * 64) (long last)) ≡ zero_block
  block_is n last low =
      let left : ℕ = k * 64 - n * 64 in
      ap (take 64) (left_after n last (omega (arith, low)))
      ∙ (take-append-le 64 (replicate left 0) last (omega (arith, low, length-replicate {A = ℕ} left 0))
      ∙ take-replicate 64 left 0 (omega (arith, low)))

  after_them : (h last : List ℕ) (n : ℕ) → n ≤ k → hash_after h (long last) n ≡ after_zeros h n
  unfolding hash_after after_zeros
  after_them h last zero low = refl
  after_them h last (suc n) low =
      ap₂ compress (after_them h last n (omega (arith, low))) (block_is n last (omega (arith, low)))
      ∙ is_one_more (after_zeros h n)

  -- the block after them
  last_is : (last : List ℕ) → take 64 (drop (k * 64) (long last)) ≡ take 64 last
  last_is last =
      let none : k * 64 - k * 64 ≡ 0 = omega arith in
      ap (take 64) (left_after k last (omega arith) ∙ ap (λ n. replicate n 0 ++ last) none)

  after_one_more : (h last : List ℕ)
      → hash_after h (long last) (k + 1) ≡ compress (after_zeros h k) (take 64 last)
  after_one_more h last =
      hash_after_next h (long last) k ∙ ap₂ compress (after_them h last k (omega arith)) (last_is last)

-- ---- the text

-- zeros in a row
two_rows : (a b : ℕ) (rest : List ℕ) → replicate a 0 ++ (replicate b 0 ++ rest) ≡ replicate (a + b) 0 ++ rest
two_rows a b rest =
    sym (append_assoc (replicate a 0) (replicate b 0) rest)
    ∙ ap (λ xs. xs ++ rest) (replicate-append-replicate a b 0)

three_rows : (a b c : ℕ) (rest : List ℕ)
    → replicate a 0 ++ ((replicate b 0 ++ []) ++ ((replicate c 0 ++ []) ++ rest))
    ≡ replicate (a + (b + c)) 0 ++ rest
three_rows a b c rest =
    ap₂ (λ x y. replicate a 0 ++ (x ++ (y ++ rest))) (append-nil (replicate b 0)) (append-nil (replicate c 0))
    ∙ (ap (λ x. replicate a 0 ++ x) (two_rows b c rest) ∙ two_rows a (b + c) rest)

-- what stands in the text after the zeros: the count of the path, and the path
abbrev rest : List ℕ
rest = 0 ∷ 0 ∷ 0 ∷ 1 ∷ replicate 32 0

-- the end of the text, after 256 blocks
abbrev tail : List ℕ
tail = replicate 4 0 ++ rest

text_is : spelling signature_item (signature_value call_signature) ≡ long 256 tail
unfolding zero_text number_spelling
text_is = three_rows 4 8_192 8_192 rest ∙ sym (two_rows 16_384 4 rest)

-- ---- its digest

-- the last block, with the padding
abbrev last_block : List ℕ
last_block = tail ++ padding 16_424

length_is : length (long 256 tail) ≡ 16_424
length_is = omega (arith, length-append (replicate 16_384 0) tail, length-replicate {A = ℕ} 16_384 0)

padded_is : padded_message (long 256 tail) ≡ long 256 last_block
padded_is =
    ap (λ n. long 256 tail ++ padding n) length_is ∙ append_assoc (replicate 16_384 0) tail (padding 16_424)

count_is : length (long 256 last_block) / 64 ≡ 257
count_is =
    ap (λ n. n / 64) (length-append (replicate 16_384 0) last_block
    ∙ ap (λ n. n + 64) (length-replicate {A = ℕ} 16_384 0))

-- byte by byte
abbrev pub signature_bytes : List ℕ
signature_bytes =
    55 ∷ 105 ∷ 153 ∷ 228 ∷ 227 ∷ 169 ∷ 72 ∷ 144 ∷ 221 ∷ 181 ∷ 41 ∷ 64 ∷ 200 ∷ 76 ∷ 40 ∷ 45 ∷
    136 ∷ 84 ∷ 176 ∷ 114 ∷ 227 ∷ 179 ∷ 28 ∷ 186 ∷ 96 ∷ 71 ∷ 25 ∷ 225 ∷ 95 ∷ 206 ∷ 180 ∷ 202 ∷ []

last_value : digest_bytes (compress after_256 (take 64 last_block)) 8 ≡ signature_bytes
unfolding first_words schedule rounds compress digest_bytes
last_value = refl

long_digest : sha256 (long 256 tail) ≡ signature_bytes
unfolding sha256
long_digest =
    ap (λ p. digest_bytes (hash_after initial_hash_256 p (length p / 64)) 8) padded_is
    ∙ (ap (λ n. digest_bytes (hash_after initial_hash_256 (long 256 last_block) n) 8) count_is
    ∙ (ap (λ h. digest_bytes h 8) (after_one_more 256 initial_hash_256 last_block)
    ∙ (ap (λ h. digest_bytes (compress h (take 64 last_block)) 8) whole ∙ last_value)))

-- the digest of the signature's text
pub signature_worked : signature_digest call_signature ≡ signature_bytes
unfolding signature_digest
signature_worked = ap sha256 text_is ∙ long_digest
