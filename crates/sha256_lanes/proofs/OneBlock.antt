-- The last block of a message, and the hash value after each. A block in one lane is kept while another is
-- set.
-- Serves: last_block, words_of, FourMessages, digest_4.
use Rattle.std.proofs.Common.{◌≡◌, ◌≢◌, ℕ, zero, suc, ◌+◌, ◌-◌, ◌*◌, ◌/◌, ◌%◌, ◌^◌, ◌<◌, ◌≤◌, List, [], ◌∷◌}
use Rattle.std.proofs.Common.{◌++◌, length, take, drop, replicate, get_or, slice_set, refl, sym, ap, ◌∙◌}
use Rattle.std.proofs.Common.{arith, append_assoc, length-append}
use Rattle.std.proofs.lemmas.List.{append-nil, drop_all, drop_at, drop-replicate, length-replicate}
use Rattle.std.proofs.lemmas.List.{replicate-append-replicate, take_all, take_at}
use Rattle.std.specs.Int.{w64, to_be_bytes}
use Rattle.sha2.specs.Sha256.{compress, digest_bytes, hash_after, initial_hash_256, padded_message}
use Rattle.sha2.specs.Sha256.{sha256}
use Rattle.sha2.proofs.Absorbing256.{hash_after-append, hash_after_next}
use Rattle.sha256_lanes.specs.Lanes.{IsBlockOf, IsHashOf, KeepsOthers}
use Rattle.sha256_lanes.specs.LongMessages.{HoldsBlocks}
use Rattle.sha256_lanes.specs.declared.long_messages.FourMessages.{FourMessages}
use borrow.Rule.Slice.PartMut.{put_mid}

-- the element after these is set
set_after : (m r : List ℕ) (a x : ℕ) → slice_set (m ++ a ∷ r) (length m) x ≡ m ++ x ∷ r
set_after [] r a x = refl
set_after (y ∷ m) r a x = ap (λ (l : List ℕ). y ∷ l) (set_after m r a x)

-- the last eight of 64 are set
last_eight : (p q s : List ℕ) → length p ≡ 56 → length q ≡ 8 → put_mid 56 8 (p ++ q) s ≡ p ++ s
last_eight p q s lp lq =
    let front : take 56 (p ++ q) ≡ p = take_at p q 56 lp in
    let back : drop 56 (p ++ q) ≡ q = drop_at p q 56 lp in
    let none : drop 8 q ≡ [] = drop_all 8 q (omega arith) in
    (λ i. front i ++ (s ++ drop 8 (back i))) ∙ ap (λ (l : List ℕ). p ++ (s ++ l)) none
    ∙ ap (λ (l : List ℕ). p ++ l) (append-nil s)

-- zeros in which the byte after a message is set
marked : (n z : ℕ) (m s rest : List ℕ) → z + n ≡ 55 → length m ≡ n → s ≡ m → rest ≡ drop n (replicate 64 0)
    → slice_set (s ++ rest) n 0x80 ≡ (m ++ 0x80 ∷ replicate z 0) ++ replicate 8 0
marked n z m s rest short lm es er =
    let zs : List ℕ = replicate z 0 in
    let eight : List ℕ = replicate 8 0 in
    let left : 64 - n ≡ suc (z + 8) = omega arith in
    let more : replicate (z + 8) 0 ≡ zs ++ eight = sym (replicate-append-replicate {A = ℕ} z 8 0) in
    let zeros : rest ≡ 0 ∷ (zs ++ eight) =
    er ∙ drop-replicate {X = ℕ} n 64 0 ∙ ap (λ (k : ℕ). replicate {A = ℕ} k 0) left
    ∙ ap (λ (l : List ℕ). 0 ∷ l) more in
    let set_at : slice_set (m ++ 0 ∷ (zs ++ eight)) n 0x80 ≡ m ++ 0x80 ∷ (zs ++ eight) =
    ap (λ (k : ℕ). slice_set (m ++ 0 ∷ (zs ++ eight)) k 0x80) (sym lm) ∙ set_after m (zs ++ eight) 0 0x80 in
    (λ i. slice_set (es i ++ zeros i) n 0x80) ∙ set_at ∙ sym (append_assoc m (0x80 ∷ zs) eight)

-- zeros into which the rest of a message, the byte 0x80 and the length in bits are set are the last block
pub block_is_last : (n size : ℕ) (m s rest bits : List ℕ) → n ≤ 55 → length m ≡ n → s ≡ m
    → rest ≡ drop n (replicate 64 0) → bits ≡ to_be_bytes w64 size
    → put_mid 56 8 (slice_set (s ++ rest) n 0x80) bits
    ≡ m ++ (0x80 ∷ replicate (55 - n) 0 ++ to_be_bytes w64 size)
block_is_last n size m s rest bits short lm es er eb =
    let z : ℕ = 55 - n in
    let zs : List ℕ = replicate z 0 in
    let p : List ℕ = m ++ 0x80 ∷ zs in
    let lz : length zs ≡ z = length-replicate {A = ℕ} z 0 in
    let lp : length p ≡ length m + suc (length zs) = length-append m (0x80 ∷ zs) in
    let front : length p ≡ 56 = omega arith in
    ap (λ (l : List ℕ). put_mid 56 8 l bits) (marked n z m s rest (omega arith) lm es er)
    ∙ last_eight p (replicate {A = ℕ} 8 0) bits front refl ∙ ap (λ (l : List ℕ). p ++ l) eb
    ∙ append_assoc m (0x80 ∷ zs) (to_be_bytes w64 size)

-- what is left before a last block's padding
length-rest : (n size : ℕ) (rest block : List ℕ) → n ≤ 55 → length block ≡ 64
    → block ≡ rest ++ (0x80 ∷ replicate (55 - n) 0 ++ to_be_bytes w64 size) → length rest ≡ n
length-rest n size rest block short lb eb =
    let zs : List ℕ = replicate (55 - n) 0 in
    let bits : List ℕ = to_be_bytes w64 size in
    let zeros : length zs ≡ 55 - n = length-replicate {A = ℕ} (55 - n) 0 in
    let eight : length bits ≡ 8 = refl in
    let after : length (zs ++ bits) ≡ length zs + length bits = length-append zs bits in
    let all : length block ≡ length rest + suc (length (zs ++ bits)) =
    ap length eb ∙ length-append rest (0x80 ∷ zs ++ bits) in
    omega arith

-- the hash value after one block more
pub one_more_block : (h m b : List ℕ) → length m % 64 ≡ 0 → length b ≡ 64
    → hash_after h (m ++ b) (length (m ++ b) / 64) ≡ compress (hash_after h m (length m / 64)) b
one_more_block h m b whole lb =
    let q : ℕ = length m / 64 in
    let len : length (m ++ b) ≡ length m + length b = length-append m b in
    let count : length (m ++ b) / 64 ≡ q + 1 = omega arith in
    let at : length m ≡ q * 64 = omega arith in
    let before : hash_after h (m ++ b) q ≡ hash_after h m q = hash_after-append h m b q (omega arith) in
    let last : take 64 (drop (q * 64) (m ++ b)) ≡ b = ap (take 64) (drop_at m b (q * 64) at)
    ∙ take_all 64 b (omega arith) in
    ap (hash_after h (m ++ b)) count ∙ hash_after_next h (m ++ b) q ∙ (λ i. compress (before i) (last i))

-- a hash value has eight words
pub length-hash_after : (m : List ℕ) (n : ℕ) → length (hash_after initial_hash_256 m n) ≡ 8
unfolding hash_after compress
length-hash_after m zero = refl
length-hash_after m (suc n) = refl

-- the digest of whole blocks and a rest, from the hash value after the blocks and the last block
digest_of_rest : (m rest block : List ℕ) (n size : ℕ) → length m % 64 ≡ 0 → length block ≡ 64 → n ≤ 55
    → size ≡ (length m + n) * 8 % 2 ^ 64
    → block ≡ rest ++ (0x80 ∷ replicate (55 - n) 0 ++ to_be_bytes w64 size)
    → sha256 (m ++ rest) ≡ digest_bytes (compress (hash_after initial_hash_256 m (length m / 64)) block) 8
unfolding sha256
digest_of_rest m rest block n size whole lb short es eb =
    let after = λ (p : List ℕ). digest_bytes (hash_after initial_hash_256 p (length p / 64)) 8 in
    let lr : length rest ≡ n = length-rest n size rest block short lb eb in
    let len : length (m ++ rest) ≡ length m + length rest = length-append m rest in
    let count : (119 - length (m ++ rest) % 64) % 64 ≡ 55 - n = omega arith in
    let bits : length (m ++ rest) * 8 % 2 ^ 64 ≡ size = omega arith in
    let padded : padded_message (m ++ rest) ≡ m ++ block = rw (append_assoc, count, bits, eb) refl in
    ap after padded ∙ ap (λ (h : List ℕ). digest_bytes h 8) (one_more_block initial_hash_256 m block whole lb)

-- the digest of a lane, from its hash value after the last block
pub digest_of_lane : (l n size : ℕ) (m rest block words hashes digest : List ℕ) (s : FourMessages)
    → HoldsBlocks s l m → n ≤ 55 → size ≡ (s.length + n) % 2 ^ 64 * 8 % 2 ^ 64
    → block ≡ rest ++ (0x80 ∷ replicate (55 - n) 0 ++ to_be_bytes w64 size) → IsBlockOf block words l
    → ((h b : List ℕ) → length h ≡ 8 → IsHashOf h s.hashes l → IsBlockOf b words l
    → IsHashOf (compress h b) hashes l)
    → ((h : List ℕ) → IsHashOf h hashes l → digest ≡ digest_bytes h 8)
    → digest ≡ sha256 (m ++ rest)
digest_of_lane l n size m rest block words hashes digest s held short es eb lane next last =
    let h = hash_after initial_hash_256 m (length m / 64) in
    let bits : size ≡ (length m + n) * 8 % 2 ^ 64 = omega (arith, held.count) in
    last (compress h block) (next h block (length-hash_after m _) held.hash lane)
    ∙ sym (digest_of_rest m rest block n size held.whole lane.size short bits eb)

-- what holds of each of four
pub each_lane : (P : ℕ → Type 0) → P 0 → P 1 → P 2 → P 3 → (l : ℕ) → l < 4 → P l
each_lane P a b c d zero h = a
each_lane P a b c d (suc zero) h = b
each_lane P a b c d (suc (suc zero)) h = c
each_lane P a b c d (suc (suc (suc zero))) h = d
each_lane P a b c d (suc (suc (suc (suc l)))) h = absurd (omega arith)

-- setting lane n keeps the block of lane l
pub kept_block : (l n : ℕ) (b before after : List ℕ) → l < 4 → l ≢ n → KeepsOthers n before after
    → IsBlockOf b before l → IsBlockOf b after l
kept_block l n b before after lane other kept held =
    record {
      size = held.size;
      each = λ k h. let apart : (4 * k + l) % 4 ≢ n = omega arith in kept (4 * k + l) apart ∙ held.each k h;
    }

-- a list of four, element by element
pub each_of_four : (xs : List (List ℕ)) → length xs ≡ 4
    → xs ≡ get_or xs 0 [] ∷ get_or xs 1 [] ∷ get_or xs 2 [] ∷ get_or xs 3 [] ∷ []
each_of_four [] h = absurd (omega arith)
each_of_four (a ∷ []) h = absurd (omega arith)
each_of_four (a ∷ b ∷ []) h = absurd (omega arith)
each_of_four (a ∷ b ∷ c ∷ []) h = absurd (omega arith)
each_of_four (a ∷ b ∷ c ∷ d ∷ []) h = refl
each_of_four (a ∷ b ∷ c ∷ d ∷ e ∷ r) h = absurd (omega arith)
