-- What a loop of writes leaves: after one step more, after all, and where a step is refused.
-- Serves: add_each, add_each_worded.
use Rattle.std.proofs.Common.{◌≡◌, ℕ, ◌+◌, ◌<◌, ◌≤◌, List, [], ◌∷◌, ◌++◌, length, take, get_or}
use Rattle.std.proofs.Common.{Result, Ok, Err, ap, sym, ◌∙◌, append_assoc, append-nil}
use Rattle.std.specs.Prelude.{IsErr}
use Rattle.std.specs.List.{flat_map}
use Rattle.std.proofs.lemmas.Grind.{flat_map-append}
use Rattle.std.proofs.lemmas.List.{take_all, take_more}
use Rattle.xdr.specs.Writing.{Adds, Begins}

-- a step that is refused leaves what was written before it, and a part of its own
pub refused_after : {E : Type 0} (text old front mid new : List ℕ) (r : Result (Unit {0}) E) → IsErr r
    → mid ≡ old ++ front → Begins mid new → Adds text old r new
refused_after text old front mid new (Ok x) wrong e more = absurd cc
refused_after text old front mid new (Err x) wrong e more =
    (front ++ more.0, more.1 ∙ ap (λ t. t ++ more.0) e ∙ append_assoc old front more.0)

module _ {A : Type 0} (text : A → List ℕ) (xs : List A) (i : ℕ) (old new : List ℕ) where
  -- one more is written
  pub more_written : (x : A) (mid : List ℕ) → i < length xs → x ≡ get_or xs i x
      → mid ≡ old ++ flat_map text (take i xs) → new ≡ mid ++ text x
      → new ≡ old ++ flat_map text (take (i + 1) xs)
  more_written x mid there is before after =
      let here : take (i + 1) xs ≡ take i xs ++ x ∷ [] =
      take_more xs i x there ∙ ap (λ y. take i xs ++ y ∷ []) (sym is) in
      let texts : flat_map text (take (i + 1) xs) ≡ flat_map text (take i xs) ++ text x =
      ap (flat_map text) here ∙ flat_map-append text (take i xs) (x ∷ [])
      ∙ ap (λ t. flat_map text (take i xs) ++ t) (append-nil (text x)) in
      after ∙ ap (λ t. t ++ text x) before ∙ append_assoc old (flat_map text (take i xs)) (text x)
      ∙ ap (λ t. old ++ t) (sym texts)

  -- all are written
  pub all_written : length xs ≤ i → new ≡ old ++ flat_map text (take i xs) → new ≡ old ++ flat_map text xs
  all_written end is = is ∙ ap (λ ys. old ++ flat_map text ys) (take_all i xs end)
