-- Counting names, one entry more.
-- Serves: `place_of`, `add_names`.
use Rattle.std.proofs.Common.{◌≡◌, ◌≢◌, ⊎_elim, ℕ, ◌+◌, ◌<◌, ◌≤◌, cond, List, [], length, get_or, set, take}
use Rattle.std.proofs.Common.{refl, sym, ap, subst, ◌∙◌, arith, eqb, eq-eqb, ne_eqb, add-zero}
use Rattle.std.proofs.lemmas.List.{get_or-set_same, get_or-set_other}
use Rattle.std.proofs.lemmas.Bool.{cases_eq, cases_lt}
use Rattle.std.proofs.lemmas.List.Sums.{sum_by_more, count_by-le-length}
use Rattle.nfs_laws.specs.fs_spec.Files.{one_if}
use Rattle.tree_rules.specs.FileRules.Rules.{AreRising}
use Rattle.tree_rules.specs.Counting.{names_listed, AddsNames}

-- of rising numbers, a later one is no less
pub rising_le : (xs : List ℕ) → AreRising xs → (i j : ℕ) → i ≤ j → j < length xs
    → get_or xs i 0 ≤ get_or xs j 0
rising_le xs up i j le h =
    ⊎_elim (λ lt. let w = up i j lt h in omega (arith, w))
    (λ ge. let same : i ≡ j = omega arith in subst (λ k. get_or xs i 0 ≤ get_or xs k 0) same (omega arith))
    (cases_lt i j)

-- numbers that rise differ
pub rising_one : (xs : List ℕ) → AreRising xs → (i j : ℕ) → i < length xs → j < length xs
    → get_or xs i 0 ≡ get_or xs j 0 → i ≡ j
rising_one xs up i j hi hj e = ⊎_elim
    (λ lt. let w = up i j lt hj in absurd (omega (arith, w, e)))
    (λ ge. ⊎_elim (λ gt. let w = up j i gt hi in absurd (omega (arith, w, e))) (λ le. omega arith)
    (cases_lt j i))
    (cases_lt i j)

module _ (n : ℕ) (entries : List (List ℕ × (ℕ × ℕ))) (at : ℕ) (inside : at < length entries) where
  names_more : (m : ℕ) → (get_or entries at ([], (0, 0))).1.0 ≡ m
      → names_listed n (take (at + 1) entries) ≡ names_listed n (take at entries) + cond (eqb m n) 1 0
  names_more m is =
      sum_by_more (one_if n) entries at ([], (0, 0)) inside
      ∙ ap (λ k. names_listed n (take at entries) + cond (eqb k n) 1 0) is

  -- with one more entry that names a number, it is named once more
  pub one_more : (get_or entries at ([], (0, 0))).1.0 ≡ n
      → names_listed n (take (at + 1) entries) ≡ names_listed n (take at entries) + 1
  one_more is = names_more n is ∙ ap (λ b. names_listed n (take at entries) + cond b 1 0) (eq-eqb n n refl)

  -- with one more entry that names another number, it is named as often as before
  pub none_more : (m : ℕ) → (get_or entries at ([], (0, 0))).1.0 ≡ m → m ≢ n
      → names_listed n (take (at + 1) entries) ≡ names_listed n (take at entries)
  none_more m is other =
      names_more m is ∙ ap (λ b. names_listed n (take at entries) + cond b 1 0) (ne_eqb m n other)
      ∙ add-zero _

-- no entries add nothing
pub adds_none : (place : ℕ) (numbers : List ℕ) (entries : List (List ℕ × (ℕ × ℕ))) (names above : List ℕ)
    → AddsNames place numbers (take 0 entries) names above names above
adds_none place numbers entries names above =
    record {
      counted = λ k h. omega arith;
      kept = λ k h none. refl;
      placed = λ k h some. absurd (omega arith);
    }

-- what one step of a count needs to be
record IsStep (numbers names above : List ℕ) (entries : List (List ℕ × (ℕ × ℕ))) (at named : ℕ) : Type 0 where
  up : AreRising numbers
  long_names : length names ≡ length numbers
  long_above : length above ≡ length numbers
  inside : at < length entries
  here : named < length numbers
  is : (get_or entries at ([], (0, 0))).1.0 ≡ get_or numbers named 0

module _ (place : ℕ) (numbers : List ℕ) (entries : List (List ℕ × (ℕ × ℕ)))
    (names0 above0 names above : List ℕ) (at named : ℕ)
    (step : IsStep numbers names above entries at named)
    (so_far : AddsNames place numbers (take at entries) names0 above0 names above) (k : ℕ)
    (h : k < length numbers) where
  other_number : k ≢ named → get_or numbers named 0 ≢ get_or numbers k 0
  other_number other e = other (rising_one numbers step.up k named h step.here (sym e))

  counted_more : get_or (set names named (get_or names named 0 + 1)) k 0
      ≡ get_or names0 k 0 + names_listed (get_or numbers k 0) (take (at + 1) entries)
  counted_more = ⊎_elim
      (λ same.
      let more =
      one_more (get_or numbers k 0) entries at step.inside
      (step.is ∙ ap (λ j. get_or numbers j 0) (sym same)) in
      let here =
      get_or-set_same names named (get_or names named 0 + 1) 0
      (omega (arith, step.here, step.long_names)) in
      let moved = ap (λ j. get_or (set names named (get_or names named 0 + 1)) j 0) same in
      let old = ap (λ j. get_or names j 0) same in
      omega (arith, more, here, moved, old, so_far.counted k h))
      (λ other.
      let more =
      none_more (get_or numbers k 0) entries at step.inside (get_or numbers named 0) step.is
      (other_number other) in
      let here = get_or-set_other names named k (get_or names named 0 + 1) 0 other in
      omega (arith, more, here, so_far.counted k h))
      (cases_eq k named)

  kept_more : names_listed (get_or numbers k 0) (take (at + 1) entries) ≡ 0
      → get_or (set above named place) k 0 ≡ get_or above0 k 0
  kept_more none = ⊎_elim
      (λ same.
      let more =
      one_more (get_or numbers k 0) entries at step.inside
      (step.is ∙ ap (λ j. get_or numbers j 0) (sym same)) in
      absurd (omega (arith, more, none)))
      (λ other.
      let more =
      none_more (get_or numbers k 0) entries at step.inside (get_or numbers named 0) step.is
      (other_number other) in
      get_or-set_other above named k place 0 other ∙ so_far.kept k h (sym more ∙ none))
      (cases_eq k named)

  placed_more : 0 < names_listed (get_or numbers k 0) (take (at + 1) entries)
      → get_or (set above named place) k 0 ≡ place
  placed_more some = ⊎_elim
      (λ same. ap (λ j. get_or (set above named place) j 0) same
      ∙ get_or-set_same above named place 0 (omega (arith, step.here, step.long_above)))
      (λ other.
      let more =
      none_more (get_or numbers k 0) entries at step.inside (get_or numbers named 0) step.is
      (other_number other) in
      get_or-set_other above named k place 0 other ∙ so_far.placed k h (omega (arith, some, more)))
      (cases_eq k named)

-- with one more entry, the count of the number that it names rises by one, and its place is above that number
pub adds_more : (place : ℕ) (numbers : List ℕ) (entries : List (List ℕ × (ℕ × ℕ)))
    (names0 above0 names above : List ℕ) (at named : ℕ)
    → AreRising numbers → length names ≡ length numbers → length above ≡ length numbers → at < length entries
    → named < length numbers
    → (get_or entries at ([], (0, 0))).1.0 ≡ get_or numbers named 0
    → AddsNames place numbers (take at entries) names0 above0 names above
    → AddsNames place numbers (take (at + 1) entries) names0 above0
    (set names named (get_or names named 0 + 1)) (set above named place)
adds_more place numbers entries names0 above0 names above at named up long_names long_above inside here is
    so_far =
    let step : IsStep numbers names above entries at named =
    record {
      up = up;
      long_names = long_names;
      long_above = long_above;
      inside = inside;
      here = here;
      is = is;
    } in
    record {
      counted = counted_more place numbers entries names0 above0 names above at named step so_far;
      kept = kept_more place numbers entries names0 above0 names above at named step so_far;
      placed = placed_more place numbers entries names0 above0 names above at named step so_far;
    }

-- as many entries name a number as there are, at most
pub few_names : (n : ℕ) (entries : List (List ℕ × (ℕ × ℕ))) → names_listed n entries ≤ length entries
few_names n entries = count_by-le-length (λ e. eqb e.1.0 n) entries
