-- The text that says what was begun: its lines tell it.
use Rattle.std.proofs.Common.{◌≡◌, ◌==◌, ◌<◌, ℕ, Bool, false, subst, append-nil, List, [], ◌∷◌, ◌++◌, map}
use Rattle.std.proofs.Common.{refl, sym, ap, ◌∙◌, append_assoc, length, arith}
use Rattle.std.specs.List.{AllByRecursion, join_with_byte, position_or_len, before_first, after_first}
use Rattle.std.proofs.lemmas.List.Elements.{All-from_recursion, All-from_get_or}
use Rattle.std.proofs.lemmas.List.Splits.{join_with_byte-slice_split, length-slice_split, slice_split_at}
use Rattle.std.proofs.lemmas.List.Splits.{slice_split_first, slice_split_none}
use Rattle.std.proofs.lemmas.List.Sums.{fails_before_first}
use Rattle.host_keys.specs.Beginnings.{IsBegun, begun_text}
use Rattle.host_keys.specs.Spent.{line_begun, lines_of, spent_text}
use Rattle.host_keys.specs.declared.begun.Begun.{Begun}
use Rattle.host_keys.proofs.BegunWords.{begun_is_line}

-- a line feed
abbrev pub is_feed : ℕ → Bool
is_feed b = b == 10

-- where there is a line feed, the first line stands before it
pub more_lines : (text : List ℕ) → position_or_len is_feed text < length text
    → lines_of text ≡ before_first is_feed text ∷ lines_of (after_first is_feed text)
more_lines text h = slice_split_first is_feed text 0 h

-- where there is none, the text is one line
pub one_line : (text : List ℕ) → position_or_len is_feed text ≡ length text → lines_of text ≡ text ∷ []
one_line text h =
    slice_split_none is_feed text
    (All-from_get_or (λ b. is_feed b
    ≡ false) text 0 (λ i below. fails_before_first is_feed text i 0 (subst (λ n. i < n) (sym h) below)))

-- the lines of the text are those of what was begun, and an empty one after them
abbrev pub texts_begun : List Begun → List (List ℕ)
texts_begun bs = map begun_text bs

pub lines_of-spent : (bs : List Begun) → AllByRecursion IsBegun bs
    → lines_of (spent_text bs) ≡ texts_begun bs ++ ([] ∷ [])
lines_of-spent [] h = refl
lines_of-spent (b ∷ bs) h =
    ap lines_of (append_assoc (begun_text b) (10 ∷ []) (spent_text bs))
    ∙ slice_split_at is_feed (begun_text b) 10 (spent_text bs) (All-from_recursion _ (begun_text b)
    (begun_is_line b h.0)) refl
    ∙ ap (λ (l : List (List ℕ)). begun_text b ∷ l) (lines_of-spent bs h.1)

joined : (bs : List Begun) → join_with_byte 10 (texts_begun bs ++ ([] ∷ [])) ≡ spent_text bs
joined [] = refl
joined (b ∷ []) = sym (append-nil (line_begun b))
joined (b ∷ c ∷ bs) =
    ap (λ (l : List ℕ). begun_text b ++ (10 ∷ l)) (joined (c ∷ bs))
    ∙ sym (append_assoc (begun_text b) (10 ∷ []) (spent_text (c ∷ bs)))

-- a text with these lines is the text
pub spent-from_lines : (text : List ℕ) (bs : List Begun) → lines_of text ≡ texts_begun bs ++ ([] ∷ [])
    → text ≡ spent_text bs
spent-from_lines text bs h =
    sym (join_with_byte-slice_split 10 text) ∙ ap (join_with_byte 10) h ∙ joined bs

-- a text has a line
pub some_line : (text : List ℕ) → lines_of text ≡ [] → ⊥
some_line text h =
    let none : length (lines_of text) ≡ 0 = ap length h in omega (arith, length-slice_split is_feed text)
