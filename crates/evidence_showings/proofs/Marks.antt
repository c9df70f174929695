-- The mark of a number after some links: where it lies in a gap, at a link, or past the last.
-- Serves: mark_after, Showing::mark_at.
use Rattle.std.proofs.Common.{◌≡◌, ℕ, zero, suc, ◌+◌, ◌-◌, ◌<◌, ◌≤◌, List, [], ◌∷◌, inl, inr, refl, sym, ap}
use Rattle.std.proofs.Common.{subst, ◌∙◌, arith}
use Rattle.std.specs.Prelude.{◌⊎◌, ◌↔◌, Option, Some, None}
use Rattle.std.proofs.lemmas.Bool.{cases_lt}
use Rattle.evidence_spec.specs.secure_log.LogEntries.Chain.{AreNumbered, IsAmong, Link, hash_after, marks}
use Rattle.evidence_spec.specs.secure_log.LogEntries.Chain.{no_entry}
use Rattle.evidence_spec.specs.secure_log.LogEntries.Chain.{none_from}
use Rattle.evidence_spec.proofs.secure_log.OfLogEntries.FewerTexts.{left, right, either}
use Rattle.evidence_spec.proofs.secure_log.OfLogEntries.Marks.{one_mark}
use Rattle.evidence_spec.specs.Showing.{ShownLink, numbered}
use Rattle.evidence_spec.proofs.Gaps.{shown_after}
use Rattle.evidence_showings.specs.Showings.{numbered_link}

none_below : (first count n : ℕ) (x : List ℕ) → IsAmong (n, x) (none_from first count) → n < first + count
none_below first zero n x i = absurd i
none_below first (suc k) n x (inl e) = omega (arith, ap (λ (p : ℕ × List ℕ). p.0) e)
none_below first (suc k) n x (inr i) = omega (arith, none_below (first + 1) k n x i)

none_there : (first count n : ℕ) → first ≤ n → n < first + count → IsAmong (n, no_entry) (none_from first count)
none_there first zero n low high = absurd (omega (arith, low, high))
none_there first (suc k) n low high =
    by (λ lt. none_there (first + 1) k n (omega (arith, lt)) (omega (arith, high))) (cases_lt first n)
  where
    by : (first < n → IsAmong (n, no_entry) (none_from (first + 1) k)) → (first < n) ⊎ (n ≤ first)
        → IsAmong (n, no_entry) (none_from first (suc k))
    by f (inl lt) = inr (f lt)
    by f (inr le) = let same : n ≡ first = omega (arith, le, low) in inl (ap (λ m. (m, no_entry)) same)

-- a number past a link is marked by what stands after it
pub step_past : (at : ℕ) (hash : List ℕ) (l : Link) (ls : List Link) (n : ℕ) (x : List ℕ) → at < n
    → l.skipped ≤ n - at - 1
    → IsAmong (n, x) (marks at hash (l ∷ ls)) ↔ IsAmong (n, x) (marks l.number (hash_after hash l) ls)
step_past at hash l ls n x below few = (
  forth,
  λ i. inr (right (none_from (at + 1) l.skipped) (marks l.number (hash_after hash l) ls) (n, x) i),
)
  where
    by : IsAmong (n, x) (none_from (at + 1) l.skipped)
        ⊎ IsAmong (n, x) (marks l.number (hash_after hash l) ls)
        → IsAmong (n, x) (marks l.number (hash_after hash l) ls)
    by (inl j) = absurd (omega (arith, none_below (at + 1) l.skipped n x j, few, below))
    by (inr j) = j

    forth : IsAmong (n, x) (marks at hash (l ∷ ls)) → IsAmong (n, x) (marks l.number (hash_after hash l) ls)
    forth (inl e) = absurd (omega (arith, ap (λ (p : ℕ × List ℕ). p.0) e, below))
    forth (inr i) =
        by (either (none_from (at + 1) l.skipped) (marks l.number (hash_after hash l) ls) (n, x) i)

-- one that a link skips has no entry
pub in_gap : (at : ℕ) (hash : List ℕ) (l : Link) (ls : List Link) (n : ℕ) (x : List ℕ)
    → AreNumbered at (l ∷ ls) → at < n → n - at - 1 < l.skipped
    → (no_entry ≡ x) ↔ IsAmong (n, x) (marks at hash (l ∷ ls))
in_gap at hash l ls n x numbers below more =
    let there : IsAmong (n, no_entry) (marks at hash (l ∷ ls)) =
    inr (left (none_from (at + 1) l.skipped) (marks l.number (hash_after hash l) ls) (n, no_entry)
    (none_there (at + 1) l.skipped n (omega (arith, below)) (omega (arith, below, more)))) in (
      (λ e. subst (λ y. IsAmong (n, y) (marks at hash (l ∷ ls))) e there),
      (λ i. one_mark at hash (l ∷ ls) n no_entry x numbers there i),
    )

-- the number before some links has the hash there
pub head_mark : (at : ℕ) (hash : List ℕ) (ls : List Link) (x : List ℕ) → AreNumbered at ls
    → (hash ≡ x) ↔ IsAmong (at, x) (marks at hash ls)
head_mark at hash ls x numbers = (
  (λ e. subst (λ y. IsAmong (at, y) (marks at hash ls)) e (first ls)),
  (λ i. one_mark at hash ls at hash x numbers (first ls) i),
)
  where
    first : (ks : List Link) → IsAmong (at, hash) (marks at hash ks)
    first [] = inl refl
    first (k ∷ ks) = inl refl

-- no mark lies before the number before some links
pub none_before : (at : ℕ) (hash : List ℕ) (ls : List Link) (n : ℕ) (x : List ℕ) → AreNumbered at ls → n < at
    → IsAmong (n, x) (marks at hash ls) → ⊥
none_before at hash [] n x numbers below (inl e) = omega (arith, ap (λ (p : ℕ × List ℕ). p.0) e, below)
none_before at hash [] n x numbers below (inr i) = i
none_before at hash (l ∷ ls) n x numbers below (inl e) = omega (arith, ap (λ (p : ℕ × List ℕ). p.0) e, below)
none_before at hash (l ∷ ls) n x numbers below (inr i) =
    by (none_before l.number (hash_after hash l) ls n x numbers.1 (omega (arith, below, numbers.0)))
    (either (none_from (at + 1) l.skipped) (marks l.number (hash_after hash l) ls) (n, x) i)
  where
    low : (first count : ℕ) → IsAmong (n, x) (none_from first count) → first ≤ n
    low first zero j = absurd j
    low first (suc k) (inl e) = omega (arith, ap (λ (p : ℕ × List ℕ). p.0) e)
    low first (suc k) (inr j) = omega (arith, low (first + 1) k j)

    by : (IsAmong (n, x) (marks l.number (hash_after hash l) ls) → ⊥)
        → IsAmong (n, x) (none_from (at + 1) l.skipped)
        ⊎ IsAmong (n, x) (marks l.number (hash_after hash l) ls) → ⊥
    by f (inl j) = omega (arith, low (at + 1) l.skipped j, below)
    by f (inr j) = f j

-- and none after the last
pub none_past : (at : ℕ) (hash : List ℕ) (n : ℕ) (x : List ℕ) → at < n
    → IsAmong (n, x) (marks at hash []) → ⊥
none_past at hash n x below (inl e) = omega (arith, ap (λ (p : ℕ × List ℕ). p.0) e, below)
none_past at hash n x below (inr i) = i

-- ---- by shown links

-- what is told twice is one
pub some_same : {A : Type 0} (x y : A) → ◌≡◌ {A = Option A} (Some x) (Some y) → x ≡ y
some_same x y e = cc

-- the marks of all links at a number are those of the links from some place on
abbrev pub SameMarks : (before : ℕ) (opening : List ℕ) (all : List ShownLink)
    → (at : ℕ) (hash : List ℕ) (here : List ShownLink) (n : ℕ) → Type 0
SameMarks before opening all at hash here n = (m : List ℕ)
    → IsAmong (n, m) (marks before opening (numbered before all)) ↔ IsAmong (n, m) (marks at hash (numbered at here))

module _ (before : ℕ) (opening : List ℕ) (all : List ShownLink) (at : ℕ) (hash : List ℕ)
    (here rest : List ShownLink) (x : ShownLink) (n : ℕ) (is : here ≡ x ∷ rest) (below : at < n)
    (same : SameMarks before opening all at hash here n) where
  same_here : SameMarks before opening all at hash (x ∷ rest) n
  same_here = subst (λ ks. SameMarks before opening all at hash ks n) is same

  -- a number that the next link skips has no entry
  pub gap_here : n - at - 1 < x.skipped → (m : List ℕ)
      → (◌≡◌ {A = Option (List ℕ)} (Some no_entry) (Some m))
      ↔ IsAmong (n, m) (marks before opening (numbered before all))
  gap_here more m =
      let g = in_gap at hash (numbered_link x (at + 1 + x.skipped)) (numbered (at + 1 + x.skipped) rest) n m
      (shown_after at (x ∷ rest)) below more in (
        (λ e. (same_here m).1 (g.0 (some_same no_entry m e))),
        (λ i. ap (λ (y : List ℕ). Some y) (g.1 ((same_here m).0 i))),
      )

  -- past the next link the marks are those of the links after it
  pub past_here : (next : ℕ) (end : List ℕ) → next ≡ at + 1 + x.skipped
      → end ≡ hash_after hash (numbered_link x next) → x.skipped ≤ n - at - 1
      → SameMarks before opening all next end rest n
  past_here next end number after few m =
      let l = numbered_link x (at + 1 + x.skipped) in
      let step = step_past at hash l (numbered (at + 1 + x.skipped) rest) n m below few in
      let there : hash_after hash l ≡ end = ap (λ k. hash_after hash (numbered_link x k)) (sym number) ∙ sym after in
      let moved : IsAmong (n, m) (marks (at + 1 + x.skipped) (hash_after hash l) (numbered (at + 1 + x.skipped) rest))
      ↔ IsAmong (n, m) (marks next end (numbered next rest)) =
      subst (λ k. IsAmong (n, m) (marks (at + 1 + x.skipped) (hash_after hash l) (numbered (at + 1 + x.skipped) rest))
      ↔ IsAmong (n, m) (marks k end (numbered k rest))) (sym number)
      (subst (λ h.
      IsAmong (n, m) (marks (at + 1 + x.skipped) (hash_after hash l) (numbered (at + 1 + x.skipped) rest))
      ↔ IsAmong (n, m) (marks (at + 1 + x.skipped) h (numbered (at + 1 + x.skipped) rest))) there
      (λ i. i, λ i. i)) in (
        (λ i. moved.0 (step.0 ((same_here m).0 i))),
        (λ i. (same_here m).1 (step.1 (moved.1 i))),
      )

  -- the next link's number has its hash
  pub link_here : (next : ℕ) (end : List ℕ) → next ≡ at + 1 + x.skipped
      → end ≡ hash_after hash (numbered_link x next) → next ≡ n → (m : List ℕ)
      → (◌≡◌ {A = Option (List ℕ)} (Some end) (Some m))
      ↔ IsAmong (n, m) (marks before opening (numbered before all))
  link_here next end number after last m =
      let past = past_here next end number after (omega (arith, number, last)) m in
      let head = subst (λ k. (end ≡ m) ↔ IsAmong (k, m) (marks next end (numbered next rest))) last
      (head_mark next end (numbered next rest) m (shown_after next rest)) in (
        (λ e. past.1 (head.0 (some_same end m e))),
        (λ i. ap (λ (y : List ℕ). Some y) (head.1 (past.0 i))),
      )

-- past the last link nothing is shown
pub none_left : (before : ℕ) (opening : List ℕ) (all : List ShownLink) (at : ℕ) (hash : List ℕ)
    (here : List ShownLink) (n : ℕ) → here ≡ [] → at < n → SameMarks before opening all at hash here n
    → (m : List ℕ) → (◌≡◌ {A = Option (List ℕ)} None (Some m))
    ↔ IsAmong (n, m) (marks before opening (numbered before all))
none_left before opening all at hash here n is below same m = (
  (λ e. absurd cc),
  (λ i. absurd (none_past at hash n m below
      (subst (λ ks. IsAmong (n, m) (marks at hash (numbered at ks))) is ((same m).0 i)))),
)
