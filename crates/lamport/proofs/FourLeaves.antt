-- The texts of four leaves side by side: how a block and the byte after it follow a text, and what holds of
-- each lane.
-- Serves: next_block, LeafTexts::new, LeafTexts::add_place, leaf_hashes (lamport).
use Rattle.std.proofs.Common.{◌≡◌, ℕ, zero, suc, ◌+◌, ◌<◌, List, [], ◌∷◌, ◌++◌, length, take, drop, replicate}
use Rattle.std.proofs.Common.{get_or, slice_index, refl, sym, ap, ◌∙◌, append_assoc, add-zero, arith}
use Rattle.std.proofs.lemmas.List.{append-nil, drop_all, drop_at, take-append-drop, take_at}
use Rattle.std.proofs.Math.Seq.{drop-cons}
use Rattle.sha256_lanes.specs.LongMessages.{HoldsBlocks}
use Rattle.lamport.specs.Fours.{four}
use Rattle.lamport.specs.LeafTexts.{HoldsText}
use Rattle.lamport.specs.declared.leaves.LeafTexts.{LeafTexts}
use borrow.Rule.Slice.PartMut.{put_mid}

-- a hash is its first 31 bytes and the last
last_byte : (o : List ℕ) → length o ≡ 32 → take 31 o ++ slice_index o 31 ∷ [] ≡ o
last_byte o size =
    let one : drop 31 o ≡ slice_index o 31 ∷ drop 32 o = drop-cons o 31 0 (omega arith) in
    let none : drop 32 o ≡ [] = drop_all 32 o (omega arith) in
    ap (λ (l : List ℕ). take 31 o ++ l) (sym (one ∙ ap (λ (l : List ℕ). slice_index o 31 ∷ l) none))
    ∙ take-append-drop 31 o

-- bytes into which two hashes are set, of the second all but the last byte
pub next_block_is : (last : ℕ) (z o x y : List ℕ) → length z ≡ 32 → length o ≡ 32 → x ≡ z → y ≡ take 31 o
    → put_mid 33 31 (put_mid 1 32 (replicate 64 last) x) y ++ slice_index o 31 ∷ [] ≡ last ∷ (z ++ o)
next_block_is last z o x y sz so ex ey =
    let tail : List ℕ = replicate 31 last in
    let end : List ℕ = slice_index o 31 ∷ [] in
    let one = λ (x : List ℕ). last ∷ (x ++ tail) in
    let two = λ (x y : List ℕ). put_mid 33 31 (one x) y ++ end in
    let front : take 32 (z ++ tail) ≡ z = take_at z tail 32 sz in
    let back : drop 32 (z ++ tail) ≡ tail = drop_at z tail 32 sz in
    let none : drop 31 (drop 32 (z ++ tail)) ≡ [] = ap (drop 31) back in
    let own : List ℕ = take 31 o in
    (λ i. two (ex i) (ey i)) ∙ (λ i. (last ∷ (front i ++ (own ++ none i))) ++ end)
    ∙ ap (λ (l : List ℕ). (last ∷ (z ++ l)) ++ end) (append-nil own) ∙ append_assoc (last ∷ z) own end
    ∙ ap (λ (l : List ℕ). last ∷ (z ++ l)) (last_byte o so)

-- what holds of each of four
pub each_lane : (P : ℕ → Type 0) → P 0 → P 1 → P 2 → P 3 → (l : ℕ) → l < 4 → P l
each_lane P a b c d zero h = a
each_lane P a b c d (suc zero) h = b
each_lane P a b c d (suc (suc zero)) h = c
each_lane P a b c d (suc (suc (suc zero))) h = d
each_lane P a b c d (suc (suc (suc (suc l)))) h = absurd (omega arith)

-- the leaf in a lane
pub at_lane : (f : ℕ → List ℕ) (first l : ℕ) → l < 4 → get_or (four f first) l [] ≡ f (first + l)
at_lane f first l h =
    let Is = λ (l : ℕ). get_or (four f first) l [] ≡ f (first + l) in
    each_lane Is (ap f (sym (add-zero first))) refl refl refl l h

-- a list of four, element by element
pub four_lanes : (f : ℕ → List ℕ) (first : ℕ) (xs : List (List ℕ)) → length xs ≡ 4
    → ((l : ℕ) → l < 4 → get_or xs l [] ≡ f (first + l)) → xs ≡ four f first
four_lanes f first [] h is = absurd (omega arith)
four_lanes f first (a ∷ []) h is = absurd (omega arith)
four_lanes f first (a ∷ b ∷ []) h is = absurd (omega arith)
four_lanes f first (a ∷ b ∷ c ∷ []) h is = absurd (omega arith)
four_lanes f first (a ∷ b ∷ c ∷ d ∷ []) h is =
    let ea : a ≡ f first = is 0 (omega arith) ∙ ap f (add-zero first) in
    let eb : b ≡ f (first + 1) = is 1 (omega arith) in
    let ec : c ≡ f (first + 2) = is 2 (omega arith) in
    let ed : d ≡ f (first + 3) = is 3 (omega arith) in
    λ i. ea i ∷ eb i ∷ ec i ∷ ed i ∷ []
four_lanes f first (a ∷ b ∷ c ∷ d ∷ e ∷ r) h is = absurd (omega arith)

-- both hashes of a place follow a text
pub one_more_place : (s next : LeafTexts) (l : ℕ) (m block z o : List ℕ)
    → ((w : List ℕ) → HoldsBlocks s.blocks l w → HoldsBlocks next.blocks l (w ++ block))
    → slice_index next.last l ≡ slice_index o 31
    → block ++ slice_index o 31 ∷ [] ≡ slice_index s.last l ∷ (z ++ o)
    → HoldsText s l m → HoldsText next l (m ++ (z ++ o))
one_more_place s next l m block z o grown last is held =
    let w : List ℕ = held.whole in
    record {
      whole = w ++ block;
      blocks = grown w held.blocks;
      text = ap (λ (t : List ℕ). t ++ (z ++ o)) held.text
          ∙ append_assoc w (slice_index s.last l ∷ []) (z ++ o)
          ∙ ap (λ (t : List ℕ). w ++ t) (sym is)
          ∙ sym (append_assoc w block (slice_index o 31 ∷ []))
          ∙ ap (λ (b : ℕ). (w ++ block) ++ b ∷ []) (sym last);
    }
