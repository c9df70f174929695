-- Sums over what a directory lists, with a name more and with a name less.
-- Serves: LinkCounts here.
use Rattle.std.proofs.Common.{◌≡◌, ℕ, ◌+◌, ◌<◌, Bool, true, false, cond, List, [], ◌∷◌, length, sum_by}
use Rattle.std.proofs.Common.{Option, Some, nat_eq, eqb, refl, ap, arith, eq-eqb}
use Rattle.std.specs.Option.{option_map_or}
use Rattle.std.specs.Map.{lookup, remove_entry}
use Rattle.std.specs.Cmp.Lexicographic.{pointwise}
use Rattle.std.proofs.lemmas.List.Sums.{sum_by-cons, sum_by_push}
use Rattle.nfs_laws.specs.fs_spec.Listing.{NamedEntry, Listing, entry_at, with_entry, without_entry}
use Rattle.nfs_laws.specs.fs_spec.Files.{Files, one_if}
use Rattle.nfs_laws.specs.nfs_spec.FileAttributes.{is_directory_at}

-- the sum of what each entry's number counts
abbrev pub sum_in : (ℕ → ℕ) → List NamedEntry → ℕ
sum_in f es = sum_by (λ e. f e.1.0) es

-- what an entry counts
abbrev pub counts_at : (ℕ → ℕ) → Option (ℕ × ℕ) → ℕ
counts_at f o = option_map_or (λ p. f p.0) o 0

module _ (f : ℕ → ℕ) where
  removed : (t : List ℕ → Bool) (es : List NamedEntry)
      → sum_in f (remove_entry t es) + counts_at f (lookup t es) ≡ sum_in f es
  removed t [] = omega arith
  removed t (e ∷ es) =
      let parts = sum_by-cons (λ (e : NamedEntry). f e.1.0) e es in
      let rest = removed t es in
      elim (t e.0) as (λ b. sum_in f (cond b es (e ∷ remove_entry t es)) + counts_at f
      (cond b (Some e.1) (lookup t es)) ≡ sum_in f (e ∷ es)) [
        | true ↦ omega (arith, parts)
        | false ↦ let more = sum_by-cons (λ (e : NamedEntry). f e.1.0) e (remove_entry t es) in
            omega (arith, parts, more, rest)
      ]

  -- with a name less
  pub sum_without : (l : Listing) (x : List ℕ)
      → sum_in f (without_entry l x).entries + counts_at f (entry_at l x) ≡ sum_in f l.entries
  sum_without l x = removed (pointwise nat_eq x) l.entries

  -- with a name more
  pub sum_with : (l : Listing) (x : List ℕ) (k : ℕ)
      → sum_in f (with_entry l x k).entries + counts_at f (entry_at l x) ≡ sum_in f l.entries + f k
  sum_with l x k =
      let less = sum_without l x in
      let more = sum_by_push (λ (e : NamedEntry). f e.1.0) (without_entry l x).entries (x, (k, l.next)) in
      omega (arith, less, more)

-- ones sum up to how many there are
pub sum_of_ones : (es : List NamedEntry) → sum_in (λ _. 1) es ≡ length es
sum_of_ones [] = refl
sum_of_ones (e ∷ es) = omega (arith, sum_by-cons (λ (e : NamedEntry). 1) e es, sum_of_ones es)

-- 1 where a number is a directory's
abbrev pub directory_one : Files → ℕ → ℕ
directory_one w n = cond (is_directory_at w n) 1 0

-- as many directories are listed where those that are listed are the same
pub same_directories : (w w' : Files) (es : List NamedEntry)
    → ((n : ℕ) → 0 < sum_by (one_if n) es → is_directory_at w' n ≡ is_directory_at w n)
    → sum_in (directory_one w') es ≡ sum_in (directory_one w) es
same_directories w w' [] same = refl
same_directories w w' (e ∷ es) same =
    let n = e.1.0 in
    let self : ◌≡◌ {A = ℕ} (cond (eqb n n) 1 0) 1 = ap (λ b. cond b 1 0) (eq-eqb n n refl) in
    let own : directory_one w' n ≡ directory_one w n =
    ap (λ b. cond b 1 0) (same n (omega (arith, sum_by-cons (one_if n) e es, self))) in
    let rest = same_directories w w' es
    (λ m some. same m (omega (arith, sum_by-cons (one_if m) e es, some))) in
    omega (
      arith,
      own,
      rest,
      sum_by-cons (λ (e : NamedEntry). directory_one w' e.1.0) e es,
      sum_by-cons (λ (e : NamedEntry). directory_one w e.1.0) e es,
    )
