-- Lines of words: a line tells its words, and digits are words.
use Rattle.std.proofs.Common.{◌≡◌, ◌==◌, ℕ, zero, suc, ◌<◌, ◌≤◌, ◌^◌, ◌/◌, ◌%◌, Bool, true, false, List, []}
use Rattle.std.proofs.Common.{◌∷◌, ◌++◌, refl, sym}
use Rattle.std.proofs.Common.{ap, ◌∙◌, subst, length, slice_index, decimal, Option, Some, None, arith}
use Rattle.std.specs.List.{AllByRecursion, position_or_len, before_first, after_first}
use Rattle.std.specs.Str.Parse.{AllDigits}
use Rattle.std.specs.Char.{digit_value}
use Rattle.std.proofs.lemmas.Bool.{eqb-true}
use Rattle.std.proofs.lemmas.Fmt.{decimal_is_IsNumeral}
use Rattle.std.proofs.lemmas.List.Elements.{All-from_recursion, All-from_get_or}
use Rattle.std.proofs.lemmas.List.Splits.{length-slice_split, slice_split_at, slice_split_first}
use Rattle.std.proofs.lemmas.List.Splits.{slice_split_none}
use Rattle.std.proofs.lemmas.List.Sums.{fails_before_first}
use Rattle.hex.specs.Hex.{encode_lower, encode_with, lower_digits}
use Rattle.host_keys.specs.Lines.{IsFree, IsWord, line_of, words_of, words_left}

-- ---- words of a line

-- a space
abbrev pub is_space : ℕ → Bool
is_space b = b == 32

-- where there is a space, the first word stands before it
pub more_words : (line : List ℕ) → position_or_len is_space line < length line
    → words_of line ≡ before_first is_space line ∷ words_of (after_first is_space line)
more_words line h = slice_split_first is_space line 0 h

-- where there is none, the line is one word
pub one_word : (line : List ℕ) → position_or_len is_space line ≡ length line → words_of line ≡ line ∷ []
one_word line h =
    slice_split_none is_space line
    (All-from_get_or (λ b. is_space b
    ≡ false) line 0 (λ i below. fails_before_first is_space line i 0 (subst (λ n. i < n) (sym h) below)))

-- a line of words has these words
pub words_of-line : (w : List ℕ) (ws : List (List ℕ)) → AllByRecursion IsWord (w ∷ ws)
    → words_of (line_of (w ∷ ws)) ≡ w ∷ ws
words_of-line w [] h = slice_split_none is_space w (All-from_recursion _ w h.0)
words_of-line w (v ∷ vs) h =
    slice_split_at is_space w 32 (line_of (v ∷ vs)) (All-from_recursion _ w h.0) refl
    ∙ ap (λ (l : List (List ℕ)). w ∷ l) (words_of-line v vs h.1)

-- ---- words without a byte

-- two texts without it make one
pub append_is_free : (d : ℕ) (v w : List ℕ) → IsFree d v → IsFree d w → IsFree d (v ++ w)
append_is_free d [] w h i = i
append_is_free d (c ∷ cs) w h i = (h.0, append_is_free d cs w h.1 i)

-- words without it make a line without it, unless it is a space
pub line_is_free : (d : ℕ) (ws : List (List ℕ)) → (32 == d) ≡ false → AllByRecursion (IsFree d) ws
    → IsFree d (line_of ws)
line_is_free d [] space h = tt
line_is_free d (w ∷ []) space h = h.0
line_is_free d (w ∷ v ∷ vs) space h =
    append_is_free d w (32 ∷ line_of (v ∷ vs)) h.0 (space, line_is_free d (v ∷ vs) space h.1)

-- a digit is another byte than one that is no digit
digit_is_other : (d c : ℕ) → 10 ≤ digit_value d → digit_value c < 10 → (b : Bool) → (c == d) ≡ b
    → (c == d) ≡ false
digit_is_other d c other h false e = e
digit_is_other d c other h true e =
    absurd (let bad : digit_value d < 10 = subst (λ n. digit_value n < 10) (eqb-true c d e) h in omega arith)

digits_are_free : (d : ℕ) (ds : List ℕ) → 10 ≤ digit_value d → AllDigits 10 ds → IsFree d ds
digits_are_free d [] other h = tt
digits_are_free d (c ∷ cs) other h =
    (digit_is_other d c other h.0 (c == d) refl, digits_are_free d cs other h.1)

-- decimal digits have no byte that is no digit
pub decimal_is_free : (d n : ℕ) → 10 ≤ digit_value d → n < 2 ^ 64 → IsFree d (decimal n)
decimal_is_free d n other h = digits_are_free d (decimal n) other (decimal_is_IsNumeral n h).0.1

-- a number at any place of a table without a byte, or 0 past its end, is another byte
free_at : (d : ℕ) (t : List ℕ) (k : ℕ) → (0 == d) ≡ false → IsFree d t → (slice_index t k == d) ≡ false
free_at d [] k zero_is_other h = zero_is_other
free_at d (c ∷ cs) zero zero_is_other h = h.0
free_at d (c ∷ cs) (suc k) zero_is_other h = free_at d cs k zero_is_other h.1

encoded_is_free : (d : ℕ) (t xs : List ℕ) → (0 == d) ≡ false → IsFree d t → IsFree d (encode_with t xs)
unfolding encode_with
encoded_is_free d t [] z h = tt
encoded_is_free d t (b ∷ rest) z h = (
  free_at d t (b / 16) z h,
  (
    free_at d t
        (b % 16) z h,
    encoded_is_free d t rest z h,
  ),
)

-- hexadecimal digits have no other byte
pub hex_is_free : (d : ℕ) (xs : List ℕ) → (0 == d) ≡ false → IsFree d lower_digits
    → IsFree d (encode_lower xs)
hex_is_free d xs z h = encoded_is_free d lower_digits xs z h

-- ---- what is left of a line

no_words : (line : List ℕ) → words_of line ≡ [] → ⊥
no_words line h =
    let one : length (words_of line) ≡ 0 = ap length h in omega (arith, length-slice_split is_space line)

-- no word is left after the last one alone
pub none_left : (rest : Option (List ℕ)) → words_left rest ≡ [] → rest ≡ None
none_left None h = refl
none_left (Some line) h = absurd (no_words line h)
