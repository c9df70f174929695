-- What has a name has a path, and what a path leads to is there.
-- Serves: numbers_have_paths (fs_spec).
use Rattle.std.proofs.Common.{◌≡◌, ◌≢◌, Option, ⊎_elim, ℕ, ◌<◌, Bool, true, false, cond, T, List, [], ◌∷◌}
use Rattle.std.proofs.Common.{◌++◌, sum_by, Some, None, IsSome, is_some, eqb, option_and_then, refl, sym, ap}
use Rattle.std.proofs.Common.{subst, ◌∙◌, arith}
use Rattle.std.specs.Prelude.{◌&&◌}
use Rattle.std.specs.List.{IsDistinct, AllByRecursion}
use Rattle.std.specs.Map.{lookup, keys_of}
use Rattle.std.specs.Ordering.{nat_cmp, eq_by_cmp, is_lt, is_eq}
use Rattle.std.specs.declared.cmp.Ordering.{Ordering}
use Rattle.std.specs.declared.cmp.Ordering.TheVariants.{Less, Equal, Greater}
use Rattle.std.specs.Cmp.{IsEquivalence, nat_cmp_total, eq_by_cmp_equiv}
use Rattle.std.specs.Cmp.Lexicographic.{nat_list_eq_equiv}
use Rattle.std.specs.FinMap as finite
use Rattle.std.specs.FinMap.Entries.{below_all, is_sorted}
use Rattle.std.proofs.lemmas.Bool.{cases_eq, cases_lt, eqb-true, cond-true, cond-false}
use Rattle.std.proofs.lemmas.List.Sums.{sum_by-cons}
use Rattle.fs_spec.specs.Listing.{entry_at, HasDistinctNames}
use Rattle.fs_spec.specs.Paths.{path_at}
use Rattle.fs_spec.specs.Files.{File, Body, Regular, Symlink, Directory, Files, file_at, listing_in}
use Rattle.fs_spec.specs.Files.{directory_entries}
use Rattle.fs_spec.specs.Files.{one_if, names_in, names_of}
use Rattle.fs_spec.specs.Trees.{IsFileTree, IsBody}
use Rattle.fs_spec.proofs.Walks.{none_some, one_number, step_last, last_name, last_step}
use Rattle.fs_spec.proofs.Counts.{all_names, find_lookup}

module _ {K X : Type 0} {eq : K → K → Bool} (laws : IsEquivalence eq) where
  -- a key that differs from all of a list is not found in it
  pub not_before : (x k : K) → eq k x ≡ true → (es : List (K × X))
      → AllByRecursion (λ y. eq x y ≡ false) (keys_of es) → lookup (eq k) es ≡ None
  not_before x k same [] all = refl
  not_before x k same (e ∷ es) all =
      cond-false _ _ _ (laws.congr k x e.0 same ∙ all.0) ∙ not_before x k same es all.1

  -- what counts is found under its own key
  pub counted : (f : X → ℕ) (es : List (K × X)) → IsDistinct eq (keys_of es) → 0 < sum_by (λ e. f e.1) es
      → (k : K) × (v : X) × (lookup (eq k) es ≡ Some v) × (0 < f v)
  unfolding IsDistinct
  counted f [] distinct h = absurd (omega arith)
  counted f (e ∷ es) distinct h = ⊎_elim
      (λ here. (e.0, e.1, cond-true _ _ _ (laws.refl e.0), here))
      (λ none.
      let rest = counted f es distinct.1 (omega (arith, sum_by-cons (λ (e : K × X). f e.1) e es, none, h)) in
      (rest.0, rest.1, behind rest.0 rest.1 rest.2 (eq rest.0 e.0) refl, rest.3))
      (cases_lt 0 (f e.1))
    where
      behind : (k : K) (v : X) → lookup (eq k) es ≡ Some v → (b : Bool) → eq k e.0 ≡ b
          → lookup (eq k) (e ∷ es) ≡ Some v
      behind k v found true is = absurd (none_some (sym (not_before e.0 k is es distinct.0) ∙ found))
      behind k v found false is = cond-false _ _ _ is ∙ found

less_not_equal : (r : Ordering) → T (is_lt r) → is_eq r ≡ false
less_not_equal Less h = refl
less_not_equal Equal h = absurd h
less_not_equal Greater h = refl

-- both parts of a conjunction hold
pub both_of : (a b : Bool) → T (a && b) → T a × T b
both_of true b h = (tt, h)
both_of false b h = absurd h

-- a conjunction holds where both parts do
pub from_both : (a b : Bool) → T a → T b → T (a && b)
from_both true b h k = k
from_both false b h k = absurd h

above_all : {X : Type 0} (x : ℕ) (es : List (ℕ × X)) → T (below_all nat_cmp x es)
    → AllByRecursion (λ y. eq_by_cmp nat_cmp x y ≡ false) (keys_of es)
above_all x [] h = tt
above_all x (e ∷ es) h = let b = both_of (is_lt (nat_cmp x e.0)) (below_all nat_cmp x es) h in
    (less_not_equal (nat_cmp x e.0) b.0, above_all x es b.1)

sorted_distinct : {X : Type 0} (es : List (ℕ × X)) → T (is_sorted nat_cmp es)
    → IsDistinct (eq_by_cmp nat_cmp) (keys_of es)
unfolding IsDistinct
sorted_distinct [] h = tt
sorted_distinct (e ∷ es) h = let b = both_of (below_all nat_cmp e.0 es) (is_sorted nat_cmp es) h in
    (above_all e.0 es b.0, sorted_distinct es b.1)

-- the names of a listing differ
pub distinct_in : (b : Body) → IsBody b → HasDistinctNames (listing_in b).entries
unfolding IsDistinct
distinct_in (Regular bytes) h = tt
distinct_in (Symlink target) h = tt
distinct_in (Directory l) h = h.1

-- what is named as a number is that number's
pub named_one : (n : ℕ) (p : ℕ × ℕ) → 0 < one_if n ([], p) → p.0 ≡ n
named_one n p h = by (eqb p.0 n) refl h
  where
    by : (b : Bool) → eqb p.0 n ≡ b → 0 < cond b 1 0 → p.0 ≡ n
    by true e h = eqb-true p.0 n e
    by false e h = absurd (omega arith)

module _ (w : Files) (tree : IsFileTree w) where
  its_entry : (d : ℕ) (f : File) (x : List ℕ) (p : ℕ × ℕ) (n : ℕ) → file_at w d ≡ Some f
      → entry_at (listing_in f.body) x ≡ Some p → p.0 ≡ n → directory_entries w d x ≡ Some (n, p.1)
  its_entry d f x p n there found same =
      ap (option_and_then (λ f. entry_at (listing_in f.body) x)) there ∙ found ∙ ap (λ m. Some (m, p.1)) same

  -- a number with a name has an entry
  pub entry_of_number : (n : ℕ) → 0 < names_of w n
      → (d : ℕ) × (x : List ℕ) × (c : ℕ) × (directory_entries w d x ≡ Some (n, c))
  entry_of_number n h =
      let outer = counted (eq_by_cmp_equiv nat_cmp_total) (names_in n) (finite.entries w.files)
      (sorted_distinct (finite.entries w.files) (finite.entries_sorted w.files))
      (omega (arith, h, all_names w n)) in
      let there : file_at w outer.0 ≡ Some outer.1 =
      finite.get-entries w.files outer.0 ∙ find_lookup outer.0 (finite.entries w.files) ∙ outer.2 in
      let inner = counted nat_list_eq_equiv (λ (p : ℕ × ℕ). one_if n ([], p))
      (listing_in outer.1.body).entries
      (distinct_in outer.1.body (tree.files outer.0 outer.1 there).body) outer.3 in (
        outer.0,
        inner.0,
        inner.1.1,
        its_entry outer.0 outer.1 inner.0 inner.1 n there inner.2 (named_one n inner.1 inner.3),
      )

  -- and a path
  pub path_of : (n : ℕ) → IsSome (file_at w n)
      → (p : List (List ℕ)) × (c : ℕ) × (path_at (directory_entries w) p ≡ Some (n, c))
  path_of n there = ⊎_elim
      (λ root. ([], 0, ap (λ m. Some (m, 0)) (sym root)))
      (λ not.
      let entry = entry_of_number n (tree.named n not there) in
      let above = tree.tree.reached entry.0 (tree.tree.lists entry.0 entry.1 n entry.2 entry.3) in (
        above.0 ++ entry.1 ∷ [],
        entry.2,
        step_last (directory_entries w) above.0 entry.1 entry.0 above.1 above.2 ∙ entry.3,
      ))
      (cases_eq n 1)

  -- what a path leads to is there
  pub path_there : (p : List (List ℕ)) (n c : ℕ) → path_at (directory_entries w) p ≡ Some (n, c)
      → IsSome (file_at w n)
  path_there p n c h = ⊎_elim
      (λ e. subst (λ m. IsSome (file_at w m))
      (one_number 1 0 n c (sym (ap (path_at (directory_entries w)) e) ∙ h))
      (tree.tree.there 1 tree.tree.root))
      (λ l. let s = last_step (directory_entries w) (1, 0) l.0 l.1 n c
      (sym (ap (path_at (directory_entries w)) l.2) ∙ h) in tree.tree.named s.0 l.1 n c s.3)
      (last_name p)

  -- what no path leads to is gone
  pub no_path : (n : ℕ) → ((p : List (List ℕ)) (c : ℕ) → path_at (directory_entries w) p ≢ Some (n, c))
      → file_at w n ≡ None
  no_path n none = by (file_at w n) refl
    where
      by : (o : Option File) → file_at w n ≡ o → file_at w n ≡ None
      by None e = e
      by (Some f) e = let p = path_of n (ap is_some e) in absurd (none p.0 p.1 p.2)
