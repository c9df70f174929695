-- Files in a list whose numbers rise, and what is read off them.
-- Serves: the laws of this crate, and what tree_rules counts.
use Rattle.std.proofs.Common.{◌≡◌, ⊎_elim, ℕ, ◌+◌, ◌<◌, ◌≤◌, Bool, true, false, T, List, [], ◌∷◌, length}
use Rattle.std.proofs.Common.{get_or, sum_by, Some, option_map, Less, sym, ap, subst, ◌∙◌, arith}
use Rattle.std.specs.Prelude.{slice_get, ◌&&◌}
use Rattle.std.specs.List.{All, IsDistinct, AllByRecursion}
use Rattle.std.specs.List.Sorted.{IsStrictlySortedBy}
use Rattle.std.specs.Map.{lookup, keys_of}
use Rattle.std.specs.Ordering.{nat_cmp, eq_by_cmp, is_lt}
use Rattle.std.specs.Cmp.{nat_cmp_total, eq_by_cmp_equiv}
use Rattle.std.specs.FinMap as finite
use Rattle.std.specs.FinMap.Entries.{below_all, is_sorted, same_entries}
use Rattle.std.proofs.lemmas.Bool.{cases_lt}
use Rattle.std.proofs.lemmas.List.{length-map}
use Rattle.std.proofs.lemmas.Map.Entries.{lookup_from_place, place_from_lookup}
use Rattle.std.proofs.lemmas.Map.Keys.{sorted_head, sorted_tail, sorted_from_strictly_increasing}
use Rattle.std.proofs.lemmas.Map.Keys.{IsDistinct-from_sorted}
use Rattle.std.proofs.lemmas.Option.{slice_get-map, slice_get_within, get_or_from_slice_get}
use Rattle.nfs_laws.specs.fs_spec.Files.{File, file_at, listing_in, names_in, names_of}
use Rattle.nfs_laws.specs.fs_spec.Trees.{IsFile}
use Rattle.nfs_laws.proofs.fs_spec.Counts.{find_lookup, same_number, all_names}
use Rattle.nfs_laws.proofs.fs_spec.Reached.{from_both}
use Rattle.tree_rules.specs.FileRules.Rules.{files_listed, IsAt, AreRising, AreNames, AreFiles, numbers_of}

-- ---- places

module _ {X : Type 0} (es : List (ℕ × X)) where
  -- the number at a place
  pub number_at : (k : ℕ) (e : ℕ × X) → slice_get es k ≡ Some e → get_or (numbers_of es) k 0 ≡ e.0
  number_at k e at =
      get_or_from_slice_get (numbers_of es) k e.0 0
      (slice_get-map (λ (e : ℕ × X). e.0) es k ∙ ap (λ o. option_map (λ (e : ℕ × X). e.0) o) at)

  -- what holds of each holds at a place
  pub holds_at : (P : ℕ × X → Type 0) → All P es → (k : ℕ) (e : ℕ × X) → slice_get es k ≡ Some e → P e
  holds_at P all k e at = subst P (get_or_from_slice_get es k e e at) (all k e (slice_get_within es k e at))

  -- numbers rise from place to place
  pub rises : AreRising (numbers_of es) → (i j : ℕ) (d e : ℕ × X) → i < j → slice_get es i ≡ Some d
      → slice_get es j ≡ Some e → d.0 < e.0
  rises up i j d e lt a b =
      omega (
        arith,
        up i j lt (omega (arith, slice_get_within es j e b, length-map es (λ (e : ℕ × X). e.0))),
        number_at i d a,
        number_at j e b,
      )

-- ---- numbers that rise

below_each : {X : Type 0} (x : ℕ) (es : List (ℕ × X)) → AllByRecursion (λ y. nat_cmp x y ≡ Less) (keys_of es)
    → T (below_all nat_cmp x es)
below_each x [] h = tt
below_each x (e ∷ es) h =
    from_both (is_lt (nat_cmp x e.0)) (below_all nat_cmp x es) (subst (λ r. T (is_lt r)) (sym h.0) tt)
    (below_each x es h.1)

-- keys in order are sorted, as a map's entries are
sorted_of : {X : Type 0} (es : List (ℕ × X)) → IsStrictlySortedBy nat_cmp (keys_of es)
    → T (is_sorted nat_cmp es)
sorted_of [] h = tt
sorted_of (e ∷ es) h =
    from_both (below_all nat_cmp e.0 es) (is_sorted nat_cmp es)
    (below_each e.0 es (sorted_head nat_cmp e.0 (keys_of es) h))
    (sorted_of es (sorted_tail nat_cmp e.0 (keys_of es) h))

-- a list that is sorted is the entries of its map
same_as_map : {X : Type 0} (es : List (ℕ × X)) → T (is_sorted nat_cmp es)
    → finite.entries (finite.from_entries {R = nat_cmp} es) ≡ es
same_as_map es h =
    same_entries nat_cmp nat_cmp_total finite.nat_cmp-IsAntisymmetric
    (finite.entries (finite.from_entries {R = nat_cmp} es)) es
    (finite.entries_sorted (finite.from_entries es)) h
    (λ q. sym (finite.get-entries (finite.from_entries es) q) ∙ finite.get-from_entries nat_cmp_total es q)

module _ {X : Type 0} (es : List (ℕ × X)) (up : AreRising (numbers_of es)) where
  -- numbers that rise are in order
  pub in_order : IsStrictlySortedBy nat_cmp (keys_of es)
  in_order = sorted_from_strictly_increasing (keys_of es) (λ k h. up k (k + 1) (omega arith) h)

  -- so the list is the entries of its map
  pub entries_listed : finite.entries (finite.from_entries {R = nat_cmp} es) ≡ es
  entries_listed = same_as_map es (sorted_of es in_order)

  distinct : IsDistinct (eq_by_cmp nat_cmp) (keys_of es)
  distinct = IsDistinct-from_sorted nat_cmp (keys_of es) in_order

-- ---- the files of the list

module _ (fsid next : ℕ) (es : List (ℕ × File)) (up : AreRising (numbers_of es)) where
  -- the file of a number is the one that a look-up in the list gives
  pub file_listed : (n : ℕ) → file_at (files_listed fsid next es) n ≡ lookup (eq_by_cmp nat_cmp n) es
  file_listed n = finite.get-from_entries nat_cmp_total es n ∙ find_lookup n es

  -- names are counted over the list
  pub names_listed : (n : ℕ) → names_of (files_listed fsid next es) n
      ≡ sum_by (λ (e : ℕ × File). names_in n e.1) es
  names_listed n =
      all_names (files_listed fsid next es) n ∙ ap (sum_by (λ (e : ℕ × File). names_in n e.1))
      (entries_listed es up)

  -- there are as many files as the list is long
  pub count_listed : finite.len (files_listed fsid next es).files ≡ length es
  count_listed = finite.len-entries (files_listed fsid next es).files ∙ ap length (entries_listed es up)

  -- what stands at a place is there
  pub file_of_place : (k n : ℕ) (f : File) → IsAt es k n f → file_at (files_listed fsid next es) n ≡ Some f
  file_of_place k n f at =
      file_listed n ∙ lookup_from_place (eq_by_cmp_equiv nat_cmp_total) es k n f (distinct es up) at

  -- and what is there stands at a place
  pub place_of_file : (n : ℕ) (f : File) → file_at (files_listed fsid next es) n ≡ Some f
      → (k : ℕ) × IsAt es k n f
  place_of_file n f h =
      let p = place_from_lookup (eq_by_cmp nat_cmp n) es f (sym (file_listed n) ∙ h) in
      (p.0, p.2 ∙ ap (λ m. Some (m, f)) (sym (same_number n p.1 p.3)))

  -- a number stands at one place
  pub one_place : (i j n : ℕ) (f g : File) → IsAt es i n f → IsAt es j n g → i ≡ j
  one_place i j n f g a b = ⊎_elim
      (λ lt. let w = rises es up i j (n, f) (n, g) lt a b in absurd (omega (arith, w)))
      (λ ge. ⊎_elim (λ gt. let w = rises es up j i (n, g) (n, f) gt b a in absurd (omega (arith, w)))
      (λ le. omega arith) (cases_lt j i))
      (cases_lt i j)

-- ---- what is said of each file

module _ (next : ℕ) (es : List (ℕ × File)) (each : AreFiles next es) (k n : ℕ) (f : File)
    (at : IsAt es k n f) where
  -- the number at a place is 1 at least and below the next
  pub number_in_range : (1 ≤ n) × (n < next)
  number_in_range = holds_at es (λ e. (1 ≤ e.0) × (e.0 < next)) each.numbers k (n, f) at

  -- the file at a place is one by itself
  pub is_file : IsFile f
  is_file = holds_at es (λ e. IsFile e.1) each.files k (n, f) at

  -- the names that the file at a place lists are names, within their limit
  pub are_names : AreNames (listing_in f.body).entries
  are_names = holds_at es (λ e. AreNames (listing_in e.1.body).entries) each.names k (n, f) at
