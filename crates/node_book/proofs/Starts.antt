-- Where a book begins: what its base shows.
-- Serves: base_mark, base_showing, start_hash.
use Rattle.std.proofs.Common.{◌≡◌, ℕ, Bool, true, false, ◌==◌, List, [], ◌∷◌, Option, Some, None, inl, inr}
use Rattle.std.proofs.Common.{refl, sym, ap, subst, ◌∙◌, ◌-◌}
use Rattle.std.specs.Prelude.{◌↔◌, ◌⊎◌, IsTrue, nat_le}
use Rattle.std.proofs.lemmas.Bool.{eq-eqb, eqb-true}
use Rattle.authenticator.specs.declared.member.LogVersion.{LogVersion}
use Rattle.authenticator.specs.declared.member.LogVersion.TheVariants.{One, Two}
use Rattle.secure_log.specs.LogEntries.Chain.{IsAmong}
use Rattle.secure_log.specs.Marks.{mark_among}
use Rattle.secure_log.proofs.OfLogEntries.Marks.{one_mark}
use Rattle.challenge.specs.evidence_showings.Bases.{HasBaseText}
use Rattle.evidence_spec.specs.Base.{BaseParts, base_by, base_marks, base_text}
use Rattle.evidence_spec.specs.Showing.{links_follow, links_in, showing_marks, showing_value}
use Rattle.evidence_spec.proofs.Gaps.{shown_after}
use Rattle.witness_spec.specs.Pairs.{Pair}
use Rattle.witness_spec.specs.Starting.{mark_at}
use Rattle.witness_book_laws.proofs.witness_laws.OfAnswers.Closing.{was_among}
use Rattle.node_book.specs.Looking.{HasWordsOf}

-- ---- the first mark of a number

-- A number has a first mark among some, which is among them.
pub record HasFirst (number : ℕ) (ps : List Pair) : Type 0 where
  pub mark : List ℕ
  pub found : mark_among number ps ≡ Some mark
  pub first : mark_at number ps ≡ mark
  pub there : IsAmong (number, mark) ps

-- It has none.
pub record HasNone (number : ℕ) (ps : List Pair) : Type 0 where
  pub found : mark_among number ps ≡ None
  pub none : (mark : List ℕ) → ¬ IsAmong (number, mark) ps

number_of_pair : {n : ℕ} {x : List ℕ} {p : Pair} → (n, x) ≡ p → p.0 ≡ n
number_of_pair e = sym (ap (λ (q : Pair). q.0) e)

-- either is so
pub first_or_none : (number : ℕ) (ps : List Pair) → HasFirst number ps ⊎ HasNone number ps
first_or_none number [] = inr (record { found = refl; none = λ mark i. i })
first_or_none number (p ∷ ps) = by (p.0 == number) refl (first_or_none number ps)
  where
    by : (b : Bool) → (p.0 == number) ≡ b → HasFirst number ps ⊎ HasNone number ps
        → HasFirst number (p ∷ ps) ⊎ HasNone number (p ∷ ps)
    by true e rest =
        inl (record {
          mark = p.1;
          found = rw e refl;
          first = rw e refl;
          there = inl (ap (λ (n : ℕ). (n, p.1)) (sym (eqb-true p.0 number e)));
        })
    by false e (inl h) =
        inl (record { mark = h.mark; found = rw e h.found; first = rw e h.first; there = inr h.there })
    by false e (inr h) = inr (record { found = rw e h.found; none = none })
      where
        none : (mark : List ℕ) → ¬ IsAmong (number, mark) (p ∷ ps)
        none mark (inl same) =
            let is : (p.0 == number) ≡ true = eq-eqb p.0 number (number_of_pair same) in
            let both : true ≡ false = sym is ∙ e in
            absurd cc
        none mark (inr i) = h.none mark i

-- what is a mark of a number exactly where it is among some is the first of them
pub is_first : (number : ℕ) (ps : List Pair) (found : Option (List ℕ))
    → ((mark : List ℕ) → (found ≡ Some mark) ↔ IsAmong (number, mark) ps) → found ≡ mark_among number ps
is_first number ps found h = by found h (first_or_none number ps)
  where
    by : (found : Option (List ℕ)) → ((mark : List ℕ) → (found ≡ Some mark) ↔ IsAmong (number, mark) ps)
        → HasFirst number ps ⊎ HasNone number ps → found ≡ mark_among number ps
    by found h (inl first) = (h first.mark).1 first.there ∙ sym first.found
    by None h (inr none) = sym none.found
    by (Some x) h (inr none) = absurd (none.none x ((h x).0 refl))

-- ---- a base

-- a base has one mark at a number
one_base_mark : (b : BaseParts) (n : ℕ) (x y : List ℕ) → IsAmong (n, x) (base_marks b) → IsAmong (n, y) (base_marks b)
    → x ≡ y
one_base_mark b n x y i j =
    one_mark (b.showing.first - 1) b.showing.opening (links_in b.showing) n x y
    (shown_after (b.showing.first - 1) b.showing.links)
    (was_among (λ (p : Pair). nat_le p.0 b.at) (n, x) (showing_marks b.showing) i)
    (was_among (λ (p : Pair). nat_le p.0 b.at) (n, y) (showing_marks b.showing) j)

-- so a mark that it has there is the first
pub base_mark_is : (b : BaseParts) (n : ℕ) (x : List ℕ) → IsAmong (n, x) (base_marks b)
    → x ≡ mark_at n (base_marks b)
base_mark_is b n x i = by (first_or_none n (base_marks b))
  where
    by : HasFirst n (base_marks b) ⊎ HasNone n (base_marks b) → x ≡ mark_at n (base_marks b)
    by (inl first) = one_base_mark b n x first.mark i first.there ∙ sym first.first
    by (inr none) = absurd (none.none x i)

-- the words of the showing of a base that has a text follow
pub base_has_words : (v : LogVersion) (b : BaseParts) → HasBaseText b → b.log_version ≡ v → HasWordsOf v b.showing
base_has_words v b text same = by v (subst (λ w. IsTrue (base_text.test (base_by w b))) same text.follow)
  where
    by : (w : LogVersion) → IsTrue (base_text.test (base_by w b)) → IsTrue (links_follow w (showing_value w b.showing))
    by One follow = refl
    by Two follow = follow
