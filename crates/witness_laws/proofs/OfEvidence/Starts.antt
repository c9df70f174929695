-- Where an audit begins: what is shown there has one mark at each number, and a base shows its own number.
-- Serves: evidence_where_exposed, evidence_proves.
use Rattle.std.proofs.Common.{◌≡◌, ◌⊎◌, inl, inr, ℕ, ◌-◌, ◌<◌, ◌≤◌, Bool, true, false, cond, ◌==◌, nat_lt}
use Rattle.std.proofs.Common.{nat_le, List, [], ◌∷◌, ◌++◌, Option, Some, None, refl, sym, ap, subst, ◌∙◌}
use Rattle.std.proofs.Common.{arith, eqb-true, eq-eqb}
use Rattle.std.proofs.lemmas.Bool.{true≢false, ltb-true, leb-true, le-leb}
use Rattle.xdr.specs.Item.{Fits}
use Rattle.authenticator.specs.declared.member.LogVersion.{LogVersion}
use Rattle.authenticator.specs.declared.member.LogVersion.TheVariants.{One, Two}
use Rattle.authenticator.specs.declared.member.Member.{Member}
use Rattle.authenticator.proofs.Signed.{is_false}
use Rattle.secure_log.specs.LogEntries.Chain.{AreNumbered, IsAmong, Link, last_number, zeros}
use Rattle.secure_log.proofs.OfLogEntries.FewerTexts.{right}
use Rattle.secure_log.proofs.OfLogEntries.Marks.{one_mark}
use Rattle.witness_spec.specs.evidence_spec.Showing.{links_in, showing_marks}
use Rattle.witness_spec.specs.evidence_spec.Base.{BaseParts, base_by, base_item, base_marks, begun_item, begun_value}
use Rattle.witness_spec.specs.evidence_spec.Base.{check_link}
use Rattle.witness_spec.proofs.evidence_spec.Gaps.{shown_after}
use Rattle.witness_spec.specs.Starting.{KnownBase, IsKnownBase, IsBaseAt, start_number, start_hash, start_pairs}
use Rattle.witness_spec.specs.Starting.{mark_at, is_below}
use Rattle.witness_spec.specs.Watched.{Watched, IsInRoster}
use Rattle.witness_spec.specs.Steps.{Past}
use Rattle.witness_spec.specs.Pairs.{Pair, first_pair}
use Rattle.witness_spec.specs.Done.{noted, accepted}
use Rattle.witness_spec.specs.Standing.{pairs_noted, pairs_accepted, shown, is_exposed}
use Rattle.witness_spec.specs.Laws.{HasTwoHashes, HasFaultyFile}
use Rattle.witness_laws.proofs.Exposing.{exposed_why, is_exposed_told}
use Rattle.witness_laws.proofs.OfAnswers.Answering.{passes}
use Rattle.witness_laws.proofs.OfAnswers.Closing.{was_among, is_left}
use Rattle.witness_laws.proofs.OfEvidence.Marks.{HasMark, has_mark, number_at, rises}

-- ---- links

-- the number of one of some links lies after the one before them, up to that of the last
link_within : (before : ℕ) (links : List Link) (l : Link) → AreNumbered before links → IsAmong l links
    → (before < l.number) × (l.number ≤ last_number before links)
link_within before [] l are i = absurd i
link_within before (k ∷ ks) l are (inl same) =
    let number : l.number ≡ k.number = ap (λ (x : Link). x.number) same in
    (omega (arith, are.0, number), omega (arith, number, rises k.number ks are.1))
link_within before (k ∷ ks) l are (inr i) =
    let r = link_within k.number ks l are.1 i in (omega (arith, r.0, are.0), r.1)

-- ---- a base

-- what stands after the version of a base's text has one too
pub begun_fits : (v : LogVersion) (b : BaseParts) → Fits base_item (base_by v b)
    → Fits (begun_item v) (begun_value v b)
begun_fits One b fits = fits.2
begun_fits Two b fits = fits.2

-- where a number has a mark, its first mark is one
mark_there : (number : ℕ) (ps : List Pair) (x : List ℕ) → IsAmong (number, x) ps
    → IsAmong (number, mark_at number ps) ps
mark_there number [] x i = absurd i
mark_there number (p ∷ ps) x i = by (p.0 == number) refl i (λ j. mark_there number ps x j)
  where
    by : (b : Bool) → (p.0 == number) ≡ b → ◌≡◌ {A = Pair} (number, x) p ⊎ IsAmong (number, x) ps
        → (IsAmong (number, x) ps → IsAmong (number, mark_at number ps) ps)
        → IsAmong (number, cond b p.1 (mark_at number ps)) (p ∷ ps)
    by true e i rest = inl (ap (λ (k : ℕ). (k, p.1)) (sym (eqb-true p.0 number e)))
    by false e (inl same) rest = absurd (true≢false (sym (eq-eqb p.0 number (sym (number_at same))) ∙ e))
    by false e (inr j) rest = inr (rest j)

module _ (ms : List Member) (m : Member) (b : KnownBase) (known : IsKnownBase ms m b) where
  -- the number before the base's first
  abbrev before_base : ℕ
  before_base = b.parts.showing.first - 1

  -- the links that it shows are numbered
  base_numbered : AreNumbered before_base (links_in b.parts.showing)
  base_numbered = shown_after before_base b.parts.showing.links

  -- its number is one of those that it shows
  pub at_within : (before_base < b.parts.at) × (b.parts.at ≤ last_number before_base (links_in b.parts.showing))
  at_within =
      let check = known.good.state.check in
      link_within before_base (links_in b.parts.showing) (check_link check.skipped b.parts.at b.state)
      base_numbered check.link

  -- each number from the one before its first to its own has a mark
  pub base_mark : (n : ℕ) → before_base ≤ n → n ≤ b.parts.at → HasMark (base_marks b.parts) n
  base_mark n low high =
      let has = has_mark before_base b.parts.showing.opening (links_in b.parts.showing) n base_numbered low
      (omega (arith, high, at_within.1)) in
      record {
        mark = has.mark;
        there = is_left (λ (p : Pair). nat_le p.0 b.parts.at) (n, has.mark) (showing_marks b.parts.showing)
            (le-leb n b.parts.at high) has.there;
      }

  -- its marks are shown
  pub base_shown : (q : Pair) → IsAmong q (base_marks b.parts) → IsAmong q (showing_marks b.parts.showing)
  base_shown q i = was_among (λ (p : Pair). nat_le p.0 b.parts.at) q (showing_marks b.parts.showing) i

  -- they lie up to its number
  pub base_low : (q : Pair) → IsAmong q (base_marks b.parts) → q.0 ≤ b.parts.at
  base_low q i =
      leb-true q.0 b.parts.at
      (passes (λ (p : Pair). nat_le p.0 b.parts.at) q (showing_marks b.parts.showing) i)

  -- the hash at its number is among its marks
  pub base_hash : IsAmong (b.parts.at, mark_at b.parts.at (base_marks b.parts)) (base_marks b.parts)
  base_hash =
      let has = base_mark b.parts.at (omega (arith, at_within.0)) (omega arith) in
      mark_there b.parts.at (base_marks b.parts) has.mark has.there

  -- at 0 it shows zeros alone
  at_zero : (n : ℕ) (y : List ℕ) → n ≡ 0 → IsAmong (n, y) (base_marks b.parts) → y ≡ zeros
  at_zero n y none j =
      known.good.state.zero y
      (subst (λ k. IsAmong (k, y) (showing_marks b.parts.showing)) none (base_shown (n, y) j))

  -- the first pair and the base's marks have one mark at a number
  base_one : (n : ℕ) (x y : List ℕ) → IsAmong (n, x) (start_pairs (Some b)) → IsAmong (n, y) (start_pairs (Some b))
      → x ≡ y
  base_one n x y (inl e) (inl f) = ap (λ (q : Pair). q.1) (e ∙ sym f)
  base_one n x y (inl e) (inr j) = ap (λ (q : Pair). q.1) e ∙ sym (at_zero n y (number_at e) j)
  base_one n x y (inr i) (inl f) = at_zero n x (number_at f) i ∙ sym (ap (λ (q : Pair). q.1) f)
  base_one n x y (inr i) (inr j) =
      one_mark before_base b.parts.showing.opening (links_in b.parts.showing) n x y base_numbered
      (base_shown (n, x) i) (base_shown (n, y) j)

-- ---- with a base or without one

module _ (ms : List Member) (m : Member) where
  -- a number from the one where the audit begins on isn't below the base
  pub not_below : (base : Option KnownBase) → IsBaseAt ms m base → (n : ℕ) → start_number base ≤ n
      → is_below base n ≡ false
  not_below None known n low = refl
  not_below (Some b) known n low = by (nat_lt n (before_base ms m b known)) refl
    where
      by : (t : Bool) → nat_lt n (before_base ms m b known) ≡ t → t ≡ false
      by true e =
          absurd (omega (arith, ltb-true n (before_base ms m b known) e, low, (at_within ms m b known).0))
      by false e = refl

  -- what is shown at first lies up to that number
  pub start_low : (base : Option KnownBase) → IsBaseAt ms m base → (n : ℕ) (x : List ℕ)
      → IsAmong (n, x) (start_pairs base) → n ≤ start_number base
  start_low None known n x (inl e) = omega (arith, number_at e)
  start_low None known n x (inr i) = absurd i
  start_low (Some b) known n x (inl e) = omega (arith, number_at e)
  start_low (Some b) known n x (inr i) = base_low ms m b known (n, x) i

  -- the hash at that number is shown
  pub start_there : (base : Option KnownBase) → IsBaseAt ms m base
      → IsAmong (start_number base, start_hash base) (start_pairs base)
  start_there None known = inl refl
  start_there (Some b) known = inr (base_hash ms m b known)

  -- what is shown at first has one mark at a number
  pub one_at_start : (base : Option KnownBase) → IsBaseAt ms m base → (n : ℕ) (x y : List ℕ)
      → IsAmong (n, x) (start_pairs base) → IsAmong (n, y) (start_pairs base) → x ≡ y
  one_at_start None known n x y (inl e) (inl f) = ap (λ (q : Pair). q.1) (e ∙ sym f)
  one_at_start None known n x y i (inr j) = absurd j
  one_at_start None known n x y (inr i) j = absurd i
  one_at_start (Some b) known n x y i j = base_one ms m b known n x y i j

-- the first pair is always shown at first
pub first_at_start : (base : Option KnownBase) → IsAmong first_pair (start_pairs base)
first_at_start None = inl refl
first_at_start (Some b) = inl refl

-- what was shown at first stays shown
pub start_shown : (w : Watched) (past : Past) (q : Pair) → IsAmong q (start_pairs w.base)
    → IsAmong q (shown w past)
start_shown w [] q i = i
start_shown w (p ∷ past) q i =
    right (pairs_noted w.member.log_version (is_exposed w past) (noted p.0 p.1))
    (pairs_accepted (accepted p.0 p.1) ++ shown w past) q
    (right (pairs_accepted (accepted p.0 p.1)) (shown w past) q (start_shown w past q i))

-- nobody is exposed at first
pub none_exposed : (w : Watched) → IsInRoster w → is_exposed w [] ≡ false
none_exposed w is =
    is_false (is_exposed w []) (λ h. by (exposed_why w [] (is_exposed_told w [] h)))
  where
    by : HasTwoHashes (shown w []) ⊎ HasFaultyFile w [] → ⊥
    by (inl two) =
        two.differ (one_at_start w.roster w.member w.base is.base two.number two.one two.other two.one_shown
        two.other_shown)
    by (inr none) = none
