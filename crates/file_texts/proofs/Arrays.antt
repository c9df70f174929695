-- Items one after the other after their count.
-- Serves: add_entries here; add_to of Received and of Sends (state_machine::states).
use Rattle.std.proofs.Common.{◌≡◌, ℕ, ◌<◌, ◌≤◌, ◌^◌, List, [], ◌∷◌, ◌++◌, length, map, Result, Ok, Err, refl}
use Rattle.std.proofs.Common.{sym, ap, subst, ◌∙◌, append_assoc, arith}
use Rattle.std.specs.Prelude.{OnOk}
use Rattle.std.proofs.lemmas.List.{length-map, append-nil}
use Rattle.std.specs.List.{flat_map, AllByRecursion}
use Rattle.xdr.specs.Item.{Item, Value, Fits, array, spelling, number_spelling}
use Rattle.xdr.specs.Writing.{Adds, Begins}

module _ {X : Type 0} (a : Item) (value : X → Value a) where
  -- the items' texts
  abbrev pub texts : List X → List ℕ
  texts xs = flat_map (λ x. spelling a (value x)) xs

  -- each of them has a spelling
  abbrev pub EachFits : List X → Type 0
  EachFits xs = AllByRecursion (Fits a) (map value xs)

  texts_of : (xs : List X) → texts xs ≡ flat_map (spelling a) (map value xs)
  texts_of [] = refl
  texts_of (x ∷ xs) = ap (λ t. spelling a (value x) ++ t) (texts_of xs)

  -- Of a list, what is left to be added and what was: with the texts of those that are left, `out` is `old`
  -- with the texts of all.
  pub record AddsRest (all rest : List X) (old out : List ℕ) : Type 0 where
    -- with the texts of those that are left, it is what was there with the texts of all
    pub text : out ++ texts rest ≡ old ++ texts all
    -- it begins with what was there
    pub begins : Begins old out
    -- where those that are left each have a spelling, all have
    pub fits : EachFits rest → EachFits all

  -- before the first
  pub nothing_added : (all : List X) (old : List ℕ) → AddsRest all all old old
  nothing_added all old = record { text = refl; begins = ([], sym (append-nil old)); fits = λ h. h }

  -- after one more
  pub one_added : (all rest after : List X) (x : X) (old out new : List ℕ) → rest ≡ x ∷ after
      → new ≡ out ++ spelling a (value x) → Fits a (value x)
      → AddsRest all rest old out → AddsRest all after old new
  one_added all rest after x old out new e is fit h = record {
    text =
        ap (λ t. t ++ texts after) is ∙ append_assoc out (spelling a (value x)) (texts after)
        ∙ sym (ap (λ (xs : List X). out ++ texts xs) e) ∙ h.text;
    begins = (
      h.begins.0 ++ spelling a (value x),
      is ∙ ap (λ t. t ++ spelling a (value x)) h.begins.1
          ∙ append_assoc old h.begins.0 (spelling a (value x)),
    );
    fits = λ each. h.fits (subst EachFits (sym e) (fit, each));
  }

  -- after the last
  pub all_added : (all rest : List X) (old out : List ℕ) → rest ≡ [] → AddsRest all rest old out
      → out ≡ old ++ texts all
  all_added all rest old out e h =
      sym (append-nil out) ∙ sym (ap (λ (xs : List X). out ++ texts xs) e) ∙ h.text

  -- after the last, each has a spelling
  pub all_fit : (all rest : List X) (old out : List ℕ) → rest ≡ [] → AddsRest all rest old out → EachFits all
  all_fit all rest old out e h = h.fits (subst EachFits (sym e) tt)

  -- where one was refused
  pub part_added : {E : Type 0} (all rest : List X) (old out new : List ℕ) (e : E) → Begins out new
      → AddsRest all rest old out → Adds (texts all) old (Err e) new
  part_added all rest old out new e more h =
      (h.begins.0 ++ more.0, more.1 ∙ ap (λ t. t ++ more.0) h.begins.1 ∙ append_assoc old h.begins.0 more.0)

  module _ {E : Type 0} (max : ℕ) (xs : List X) where
    -- their texts after their count
    pub adds_counted : (old first new : List ℕ) (r : Result (Unit {0}) E)
        → first ≡ old ++ number_spelling 4 (length xs)
        → Adds (texts xs) first r new → Adds (spelling (array max a) (map value xs)) old r new
    adds_counted old first new (Ok x) e h =
        let same : length (map value xs) ≡ length xs = length-map xs value in
        rw (same, ← texts_of xs) (h ∙ ap (λ t. t ++ texts xs) e
        ∙ append_assoc old (number_spelling 4 (length xs)) (texts xs))
    adds_counted old first new (Err x) e h = (
      number_spelling 4 (length xs) ++ h.0,
      h.1 ∙ ap (λ t. t ++ h.0) e
          ∙ append_assoc old (number_spelling 4 (length xs)) h.0,
    )

    -- items that each have a spelling have one together, after their count
    pub fits_counted : (r : Result (Unit {0}) E) → max < 2 ^ 32 → length xs ≤ max → OnOk r (EachFits xs)
        → OnOk r (Fits (array max a) (map value xs))
    fits_counted (Ok x) word few each =
        let same : length (map value xs) ≡ length xs = length-map xs value in
        (omega arith, omega arith, each)
    fits_counted (Err x) word few each = tt
