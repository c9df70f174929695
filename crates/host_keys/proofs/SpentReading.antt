-- What reading line by line keeps: what was read so far is how all begins that the text can say.
use Rattle.std.proofs.Common.{◌≡◌, ◌==◌, ◌++◌, ℕ, Bool, true, List, [], ◌∷◌, length, refl, sym, ap, subst}
use Rattle.std.proofs.Common.{◌∙◌, append_assoc}
use Rattle.std.proofs.Common.{append-nil, arith}
use Rattle.std.specs.List.{AllByRecursion, list_all}
use Rattle.std.proofs.lemmas.Bool.{and_parts, eqb-true}
use Rattle.host_keys.specs.Beginnings.{IsBegun, begun_text, may_follow}
use Rattle.host_keys.specs.Spent.{AreSpent, MayBegin, follow, lines_of, spent_text}
use Rattle.host_keys.specs.declared.begun.Begun.{Begun}
use Rattle.host_keys.proofs.Steps.{same_first, same_rest}
use Rattle.host_keys.proofs.SpentText.{lines_of-spent, some_line, spent-from_lines, texts_begun}

-- what was read, and what follows it in the rest of the text, are all of these
pub record Later (items : List Begun) (rest : List ℕ) (bs : List Begun) : Type 0 where
  pub later : List Begun
  pub whole : bs ≡ items ++ later
  pub lines : lines_of rest ≡ texts_begun later ++ ([] ∷ [])

-- the same, where a line is read next
pub record More (items : List Begun) (line more : List ℕ) (bs : List Begun) : Type 0 where
  pub next : Begun
  pub later : List Begun
  pub whole : bs ≡ items ++ (next ∷ later)
  pub line_is : line ≡ begun_text next
  pub lines : lines_of more ≡ texts_begun later ++ ([] ∷ [])

pub more_of : (items : List Begun) (rest line more : List ℕ) (bs : List Begun) → Later items rest bs
    → lines_of rest ≡ line ∷ lines_of more → More items line more bs
more_of items rest line more bs h split = go h.later h.whole h.lines
  where
    go : (later : List Begun) → bs ≡ items ++ later → lines_of rest ≡ texts_begun later ++ ([] ∷ [])
        → More items line more bs
    go [] w l = absurd (some_line more (same_rest split l))
    go (b ∷ later) w l = record {
      next = b;
      later = later;
      whole = w;
      line_is = same_first split l;
      lines = same_rest split l;
    }

each_at : (items : List Begun) (b : Begun) (later : List Begun)
    → AllByRecursion IsBegun (items ++ (b ∷ later))
    → IsBegun b
each_at [] b later h = h.0
each_at (a ∷ items) b later h = each_at items b later h.1

all_at : (p : Begun → Bool) (items : List Begun) (b : Begun) (later : List Begun)
    → list_all p (items ++ (b ∷ later)) ≡ true → p b ≡ true
all_at p [] b later h = (and_parts (p b) (list_all p later) h).0
all_at p (a ∷ items) b later h = all_at p items b later (and_parts (p a) (list_all p (items ++
    (b ∷ later))) h).1

follows_at : (items : List Begun) (b : Begun) (later : List Begun) → follow (items ++ (b ∷ later)) ≡ true
    → list_all (λ a. may_follow a b) items ≡ true
follows_at [] b later h = refl
follows_at (a ∷ items) b later h =
    let parts = and_parts (list_all (λ x. may_follow a x) (items ++ (b ∷ later))) (follow (items ++
    (b ∷ later))) h in
    rw (all_at (λ x. may_follow a x) items b later parts.0, follows_at items b later parts.1) refl

-- the next may be begun after those that were read
pub may_of : (items : List Begun) (line more : List ℕ) (bs : List Begun) → AreSpent bs
    → (m : More items line more bs) → MayBegin items m.next
may_of items line more bs are m =
    let all : AreSpent (items ++ (m.next ∷ m.later)) = subst AreSpent m.whole are in record {
      is = each_at items m.next m.later all.each;
      after = follows_at items m.next m.later all.in_order;
    }

-- once it is read the rest follows
pub later_of : (items new : List Begun) (line more : List ℕ) (bs : List Begun) → (m : More items line more bs)
    → new ≡ items ++ (m.next ∷ []) → Later new more bs
later_of items new line more bs m is = record {
  later = m.later;
  whole = m.whole ∙ sym (append_assoc items (m.next ∷ []) m.later) ∙ ap (λ s. s ++ m.later) (sym is);
  lines = m.lines;
}

-- the lines so far
pub found_more : (text rest line more : List ℕ) (items new : List Begun) (b : Begun)
    → lines_of text ≡ texts_begun items ++ lines_of rest → lines_of rest ≡ line ∷ lines_of more
    → new ≡ items ++ (b ∷ []) → line ≡ begun_text b → lines_of text ≡ texts_begun new ++ lines_of more
found_more text rest line more items new b found split is line_is =
    found ∙ ap (λ l. texts_begun items ++ l) (split ∙ ap (λ w. w ∷ lines_of more) line_is)
    ∙ sym (append_assoc (texts_begun items) (begun_text b ∷ []) (lines_of more))
    ∙ ap (λ l. l ++ lines_of more) (sym (mapped items b) ∙ ap texts_begun (sym is))
  where
    mapped : (items : List Begun) (b : Begun)
        → texts_begun (items ++ (b ∷ [])) ≡ texts_begun items ++ (begun_text b ∷ [])
    mapped [] b = refl
    mapped (a ∷ items) b = ap (λ l. begun_text a ∷ l) (mapped items b)

-- ---- at the end

empty : (text : List ℕ) → length text ≡ 0 → text ≡ []
empty [] h = refl
empty (b ∷ bs) h = absurd (omega arith)

-- nothing is left
pub found_all : (text rest now : List ℕ) (items : List Begun)
    → lines_of text ≡ texts_begun items ++ lines_of rest
    → now ≡ rest → (length now == 0) ≡ true → text ≡ spent_text items
found_all text rest now items found same none =
    let nothing : rest ≡ [] = empty rest (ap length (sym same) ∙ eqb-true (length now) 0 none) in
    spent-from_lines text items (found ∙ ap (λ r. texts_begun items ++ lines_of r) nothing)

-- what follows is nothing where the rest is one line
pub nothing_later : (items : List Begun) (rest : List ℕ) (bs : List Begun) → (h : Later items rest bs)
    → lines_of rest ≡ rest ∷ [] → (items ≡ bs) × (rest ≡ [])
nothing_later items rest bs h one = go h.later h.whole h.lines
  where
    go : (later : List Begun) → bs ≡ items ++ later → lines_of rest ≡ texts_begun later ++ ([] ∷ [])
        → (items ≡ bs) × (rest ≡ [])
    go [] w l = (sym (append-nil items) ∙ sym w, same_first one l)
    go (b ∷ []) w l = absurd (let bad = same_rest one l in cc)
    go (b ∷ c ∷ later) w l = absurd (let bad = same_rest one l in cc)

-- the text that says it has its lines
pub lines_said : (text : List ℕ) (bs : List Begun) → AreSpent bs → text ≡ spent_text bs
    → lines_of text ≡ texts_begun bs ++ ([] ∷ [])
lines_said text bs are e = ap lines_of e ∙ lines_of-spent bs are.each
