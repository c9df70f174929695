-- Counting over files, one file more.
-- Serves: `add_inodes`, `is_tree`, `links_of`.
use Rattle.std.proofs.Common.{◌≡◌, ⊎_elim, ℕ, zero, suc, ◌+◌, ◌<◌, ◌≤◌, List, [], ◌∷◌, length, get_or, take}
use Rattle.std.proofs.Common.{replicate, Some, refl, sym, ap, subst, ◌∙◌, arith}
use Rattle.std.specs.Prelude.{slice_get}
use Rattle.std.specs.List.{All}
use Rattle.std.proofs.lemmas.Bool.{cases_lt}
use Rattle.std.proofs.lemmas.List.{take_all, length-map}
use Rattle.std.proofs.lemmas.List.Elements.{All-more, All-from_get_or}
use Rattle.std.proofs.lemmas.List.Sums.{sum_by_more, sum_by-take-le, sum_by-cons, get_or-le-sum_by}
use Rattle.std.proofs.lemmas.Option.{slice_get_within, slice_get_cases, get_or_from_slice_get}
use Rattle.nfs_laws.specs.fs_spec.Files.{File, listing_in, names_in}
use Rattle.tree_rules.specs.FileRules.Climbs.{AreWays}
use Rattle.tree_rules.specs.FileRules.Rules.{IsAt, AreKnown, AreNamesCounted, StandsIn, numbers_of}
use Rattle.tree_rules.proofs.OfFileRules.Listed.{number_at, holds_at}
use Rattle.tree_rules.specs.Listed.{entries_among}
use Rattle.tree_rules.specs.Counting.{IsAmong, IsCount, names_listed, names_among, AddsNames}
use Rattle.tree_rules.proofs.Naming.{few_names}

-- what the first files give
pub record AreCountedTo (count : ℕ) (es : List (ℕ × File)) (numbers names above : List ℕ) : Type 0 where
  -- each number has as many names as the first files give it
  pub counted : (k : ℕ) → k < length numbers
      → get_or names k 0 ≡ names_among (get_or numbers k 0) (take count es)
  -- where it has one, the place above it is of a file that names it
  pub named_by : (k : ℕ) → k < length numbers → 0 < get_or names k 0
      → (m : ℕ) × (g : File) × IsAt es (get_or above k 0) m g × (0 < names_in (get_or numbers k 0) g)
  -- where it has none, no place is above it
  pub unnamed : (k : ℕ) → k < length numbers → get_or names k 0 ≡ 0 → get_or above k 0 ≡ 0

-- no number has more names than there are entries
few_among : (n : ℕ) (es : List (ℕ × File)) → names_among n es ≤ entries_among es
few_among n [] = omega arith
few_among n (e ∷ es) =
    let rest = few_among n es in
    omega (
      arith,
      rest,
      few_names n (listing_in e.1.body).entries,
      sum_by-cons (λ (e : ℕ × File). names_in n e.1) e es,
      sum_by-cons (λ (e : ℕ × File). length (listing_in e.1.body).entries) e es,
    )

zeros : (n k : ℕ) → ◌≡◌ {A = ℕ} (get_or (replicate n 0) k 0) 0
zeros zero k = refl
zeros (suc n) zero = refl
zeros (suc n) (suc k) = zeros n k

-- each name so far is of a number that is there
abbrev pub AreKnownTo : ℕ → List (ℕ × File) → List ℕ → Type 0
AreKnownTo count es numbers =
    All (λ (e : ℕ × File). All (λ (x : List ℕ × (ℕ × ℕ)). IsAmong numbers x.1.0)
    (listing_in e.1.body).entries) (take count es)

module _ (i : ℕ) (es : List (ℕ × File)) (n : ℕ) (f : File) (at : IsAt es i n f) where
  inside : i < length es
  inside = slice_get_within es i (n, f) at

  is : get_or es i (n, f) ≡ (n, f)
  is = get_or_from_slice_get es i (n, f) (n, f) at

  names_more : (m : ℕ) → names_among m (take (i + 1) es)
      ≡ names_among m (take i es) + names_listed m (listing_in f.body).entries
  names_more m =
      sum_by_more (λ (e : ℕ × File). names_in m e.1) es i (n, f) inside
      ∙ ap (λ (x : ℕ × File). names_among m (take i es) + names_in m x.1) is

  -- one file more
  pub counted_more : (numbers names above names' above' : List ℕ)
      → AddsNames i numbers (listing_in f.body).entries names above names' above'
      → AreCountedTo i es numbers names above → AreCountedTo (i + 1) es numbers names' above'
  counted_more numbers names above names' above' adds old = record {
    counted = λ k h. omega (arith, adds.counted k h, old.counted k h, names_more (get_or numbers k 0));
    named_by = λ k h some. ⊎_elim
        (λ here. (n, f, ap (slice_get es) (adds.placed k h here) ∙ at, here))
        (λ not_here.
        let none_here : names_listed (get_or numbers k 0) (listing_in f.body).entries ≡ 0 = omega arith in
        let before = old.named_by k h (omega (arith, some, adds.counted k h, none_here)) in
        (before.0, before.1, ap (slice_get es) (adds.kept k h none_here) ∙ before.2, before.3))
        (cases_lt 0 (names_listed (get_or numbers k 0) (listing_in f.body).entries));
    unnamed = λ k h none.
        let here : names_listed (get_or numbers k 0) (listing_in f.body).entries ≡ 0 =
        omega (arith, none, adds.counted k h) in
        adds.kept k h here ∙ old.unnamed k h (omega (arith, none, adds.counted k h));
  }

  -- so it is of one file more, whose names are all of numbers that are there
  pub known_more : (numbers : List ℕ) → AreKnownTo i es numbers
      → All (λ (x : List ℕ × (ℕ × ℕ)). IsAmong numbers x.1.0) (listing_in f.body).entries
      → AreKnownTo (i + 1) es numbers
  known_more numbers old here =
      All-more (λ (e : ℕ × File). All (λ (x : List ℕ × (ℕ × ℕ)). IsAmong numbers x.1.0)
      (listing_in e.1.body).entries) es i (n, f) inside old
      (subst (λ (e : ℕ × File). All (λ (x : List ℕ × (ℕ × ℕ)). IsAmong numbers x.1.0)
      (listing_in e.1.body).entries) (sym is) here)

  -- the names so far and those of the next file are few, where all are
  pub few_more : (m : ℕ) → names_among m (take i es) + length (listing_in f.body).entries ≤ entries_among es
  few_more m =
      let before = few_among m (take i es) in
      let more = sum_by_more (λ (e : ℕ × File). length (listing_in e.1.body).entries) es i (n, f) inside in
      let this = ap (λ (x : ℕ × File). length (listing_in x.1.body).entries) is in
      let all = sum_by-take-le (λ (e : ℕ × File). length (listing_in e.1.body).entries) es (i + 1) in
      omega (arith, before, more, this, all)

-- nothing is counted before the first file
pub counted_none : (es : List (ℕ × File)) (numbers : List ℕ) (n : ℕ)
    → AreCountedTo 0 es numbers (replicate n 0) (replicate n 0)
counted_none es numbers n = record {
  counted = λ k h. zeros n k;
  named_by = λ k h some. absurd (omega (arith, zeros n k));
  unnamed = λ k h none. zeros n k;
}

-- and all after the last
pub counted_all : (es : List (ℕ × File)) (numbers names above : List ℕ) (i : ℕ) → length es ≤ i
    → numbers ≡ numbers_of es → AreCountedTo i es numbers names above → AreNamesCounted es names above
counted_all es numbers names above i ge is old = record {
  counted =
      λ k n f at. old.counted k (inside k n f at) ∙ ap (λ m. names_among m (take i es)) (number k n f at)
      ∙ ap (names_among n) (take_all i es ge);
  named_by =
      λ k n f at some. let b = old.named_by k (inside k n f at) some in
      (b.0, b.1, b.2, subst (λ m. 0 < names_in m b.1) (number k n f at) b.3);
  unnamed = λ k n f at none. old.unnamed k (inside k n f at) none;
}
  where
    inside : (k n : ℕ) (f : File) → IsAt es k n f → k < length numbers
    inside k n f at =
        omega (arith, slice_get_within es k (n, f) at, ap length is, length-map es (λ (e : ℕ × File). e.0))

    number : (k n : ℕ) (f : File) → IsAt es k n f → get_or numbers k 0 ≡ n
    number k n f at = ap (λ (l : List ℕ). get_or l k 0) is ∙ number_at es k (n, f) at

-- ---- numbers that are there

module _ (es : List (ℕ × File)) where
  stands : (m : ℕ) → IsAmong (numbers_of es) m → StandsIn es m
  stands m a = ⊎_elim
      (λ found. (
        a.0,
        found.0.1,
        found.2 ∙ ap (λ j. Some (j, found.0.1))
            (sym (number_at es a.0 found.0 found.2) ∙ a.2),
      ))
      (λ past. absurd (omega (arith, past.0, a.1, length-map es (λ (e : ℕ × File). e.0))))
      (slice_get_cases es a.0).1

  among : (m : ℕ) → StandsIn es m → IsAmong (numbers_of es) m
  among m s = (
    s.0,
    omega (arith, slice_get_within es s.0 (m, s.1) s.2, length-map es (λ (e : ℕ × File). e.0)),
    number_at es s.0 (m, s.1) s.2,
  )

  -- where each name is of a number that is there
  pub known_all : (i : ℕ) → length es ≤ i → AreKnownTo i es (numbers_of es) → AreKnown es
  known_all i ge all k n f at =
      let here : All (λ (x : List ℕ × (ℕ × ℕ)). IsAmong (numbers_of es) x.1.0) (listing_in f.body).entries =
      holds_at es (λ (e : ℕ × File). All (λ (x : List ℕ × (ℕ × ℕ)). IsAmong (numbers_of es) x.1.0)
      (listing_in e.1.body).entries)
      (subst (All (λ (e : ℕ × File). All (λ (x : List ℕ × (ℕ × ℕ)). IsAmong (numbers_of es) x.1.0)
      (listing_in e.1.body).entries)) (take_all i es ge) all) k (n, f) at in
      λ j d h. stands (get_or (listing_in f.body).entries j d).1.0 (here j d h)

  -- and each file's are
  pub known_at : AreKnown es → (k n : ℕ) (f : File) → IsAt es k n f
      → All (λ (x : List ℕ × (ℕ × ℕ)). IsAmong (numbers_of es) x.1.0) (listing_in f.body).entries
  known_at known k n f at j d h = among (get_or (listing_in f.body).entries j d).1.0 (known k n f at j d h)

-- each place leads to one of them
pub are_ways : (es : List (ℕ × File)) (names above : List ℕ) → IsCount es names above → AreWays above
are_ways es names above count = All-from_get_or (λ place. place < length above) above 0 (λ k h. ⊎_elim
    (λ found. ⊎_elim
    (λ some.
    let b = count.counted.named_by k found.0.0 found.0.1 found.2 some in
    omega (arith, slice_get_within es (get_or above k 0) (b.0, b.1) b.2, count.long_above))
    (λ none.
    let first = count.counted.unnamed k found.0.0 found.0.1 found.2 (omega arith) in
    omega (arith, first, h))
    (cases_lt 0 (get_or names k 0)))
    (λ past. absurd (omega (arith, past.0, h, count.long_above)))
    (slice_get_cases es k).1)

-- ---- where entries are few

module _ (es : List (ℕ × File)) (k n : ℕ) (f : File) (at : IsAt es k n f) where
  -- so are those of a file
  pub few_entries_at : length (listing_in f.body).entries ≤ entries_among es
  few_entries_at =
      let one =
      get_or-le-sum_by (λ (e : ℕ × File). length (listing_in e.1.body).entries) es k (n, f)
      (slice_get_within es k (n, f) at) in
      omega (
        arith,
        one,
        ap (λ (x : ℕ × File). length (listing_in x.1.body).entries)
            (get_or_from_slice_get es k (n, f) (n, f) at),
      )

  -- and its names
  pub few_names_at : (names above : List ℕ) → IsCount es names above → get_or names k 0 ≤ entries_among es
  few_names_at names above count = omega (arith, count.counted.counted k n f at, few_among n es)
