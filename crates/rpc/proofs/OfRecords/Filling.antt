-- Filling a buffer from its front.
-- Serves: fill (its loop), read_piece, write_front (its loop).
use Rattle.std.proofs.Common.{◌≡◌, ℕ, ◌+◌, ◌-◌, ◌≤◌, List, [], ◌++◌, arith, length, take, drop, ap, ◌∙◌}
use Rattle.std.proofs.Common.{le_refl, take_at, drop_at, length-take-le, length-append, length-drop}
use Rattle.std.proofs.Common.{replicate, refl}
use Rattle.std.proofs.lemmas.List.{append-nil, drop_all, take_all}
use Rattle.std.proofs.lemmas.Slice.{take-put_mid_below}
use borrow.Rule.Slice.PartMut.{put_mid, post_of}
use lib.Seq.{take-add, take-append-le}

-- the bytes up to what was read into the rest of a buffer
pub take-put_mid_read : (a n : ℕ) (xs ys : List ℕ) → a ≤ length xs → n ≤ length ys
    → take (a + n) (put_mid a (length xs - a) xs ys) ≡ take a xs ++ take n ys
take-put_mid_read a n xs ys within fits =
    let k : ℕ = length xs - a in
    let whole : List ℕ = put_mid a k xs ys in
    let behind : take n (drop a whole) ≡ take n ys =
    ap (take n) (drop_at (take a xs) (ys ++ post_of a k xs) a (length-take-le a xs within))
    ∙ take-append-le n ys (post_of a k xs) fits in
    take-add a n whole ∙ ap (λ (l : List ℕ). l ++ take n (drop a whole))
    (take-put_mid_below _ _ _ _ _ (le_refl _) within) ∙ ap (λ (l : List ℕ). take a xs ++ l) behind

-- a text with zeros after it
pub text_grown : (text : List ℕ) (start len n : ℕ) → length text ≡ start → n ≡ start
    → take (start + len) text ++ replicate ((start + len) - n) 0 ≡ text ++ replicate len 0
text_grown text start len n is same =
    let all : take (start + len) text ≡ text = take_all (start + len) text (omega arith) in
    let k : (start + len) - n ≡ len = omega arith in
    rw (all, k) refl

-- a text with the room after it filled
pub text_filled : (text zeros whole filled : List ℕ) (start size : ℕ) (behind : List ℕ) → length text ≡ start
    → whole ≡ text ++ zeros → length zeros ≡ length filled → size ≡ start + length filled
    → take size ((take start whole ++ (filled ++ post_of start (length whole - start) whole)) ++ behind)
    ≡ text ++ filled
text_filled text zeros whole filled start size behind is e same sum =
    let front : take start whole ≡ text = ap (take start) e ∙ take_at text zeros start is in
    let none : post_of start (length whole - start) whole ≡ [] =
    drop_all (length whole - start) (drop start whole) (omega (arith, length-drop start whole)) in
    let parts : take start whole ++ (filled ++ post_of start (length whole - start) whole) ≡ text ++ filled =
    rw (front, none) (ap (λ (t : List ℕ). text ++ t) (append-nil filled)) in
    take_at (take start whole ++ (filled ++ post_of start (length whole - start) whole)) behind size
    (omega (arith, ap length parts, length-append text filled)) ∙ parts

-- the bytes up to what was taken of the rest of a buffer
pub take-behind : (a n : ℕ) (xs : List ℕ)
    → take (a + n) xs ≡ take a xs ++ take n (take (length xs - a) (drop a xs))
take-behind a n xs =
    rw (take_all (length xs - a) (drop a xs) (omega (arith, length-drop a xs))) (take-add a n xs)
