-- What a file lists, and the entries of directories that it is.
-- Serves: Ways and Decided here.
use Rattle.std.proofs.Common.{◌≡◌, ⊎_elim, ℕ, ◌<◌, Bool, true, false, cond, List, [], ◌∷◌, length, get_or}
use Rattle.std.proofs.Common.{sum_by, Some, nat_eq, option_and_then, refl, sym, ap, subst, ◌∙◌, arith, eqb}
use Rattle.std.proofs.Common.{eqb-true}
use Rattle.std.specs.List.{All, IsDistinct, AllByRecursion}
use Rattle.std.specs.Map.{lookup, keys_of}
use Rattle.std.specs.Cmp.{IsEquivalence}
use Rattle.std.specs.Cmp.Lexicographic.{pointwise, same_text, nat_list_eq_equiv}
use Rattle.std.proofs.lemmas.Bool.{cases_lt, cond-true, cond-false}
use Rattle.std.proofs.lemmas.Option.{slice_get-get_or}
use Rattle.std.proofs.lemmas.List.Elements.{recursion_from_All}
use Rattle.std.proofs.lemmas.List.Sums.{sum_by-cons}
use Rattle.std.proofs.lemmas.Map.Entries.{lookup_from_place}
use Rattle.nfs_laws.specs.fs_spec.Listing.{entry_at, HasDistinctNames}
use Rattle.nfs_laws.specs.fs_spec.Files.{File, Files, file_at, listing_in, directory_entries, one_if}
use Rattle.nfs_laws.specs.fs_spec.Files.{names_in}
use Rattle.nfs_laws.proofs.fs_spec.Walks.{none_some, some_same}
use Rattle.nfs_laws.proofs.fs_spec.Reached.{counted, named_one}

-- what holds of each value holds of what is looked up
looked_up : {K X : Type 0} (P : X → Type 0) (t : K → Bool) (es : List (K × X)) (v : X)
    → AllByRecursion (λ e. P e.1) es → lookup t es ≡ Some v → P v
looked_up P t [] v all h = absurd (none_some h)
looked_up P t (e ∷ es) v all h = elim (t e.0) as (λ b. cond b (Some e.1) (lookup t es) ≡ Some v → P v) [
  | true ↦ λ is. subst P (some_same is) all.0
  | false ↦ λ is. looked_up P t es v all.1 is
] h

-- the same of a key too
found_key : {X : Type 0} (P : List ℕ → Type 0) (name : List ℕ) (es : List (List ℕ × X)) (v : X)
    → AllByRecursion (λ e. P e.0) es → lookup (pointwise nat_eq name) es ≡ Some v → P name
found_key P name [] v all h = absurd (none_some h)
found_key P name (e ∷ es) v all h = by (pointwise nat_eq name e.0) refl h (found_key P name es v all.1)
  where
    by : (b : Bool) → pointwise nat_eq name e.0 ≡ b
        → cond b (Some e.1) (lookup (pointwise nat_eq name) es) ≡ Some v
        → (lookup (pointwise nat_eq name) es ≡ Some v → P name) → P name
    by true is g next = subst P (sym (same_text name e.0 (sym is))) all.0
    by false is g next = next g

module _ (w : Files) (n : ℕ) (f : File) (there : file_at w n ≡ Some f) where
  -- what a file lists is an entry of a directory
  pub entry_in_directory : (name : List ℕ) (p : ℕ × ℕ) → entry_at (listing_in f.body) name ≡ Some p
      → directory_entries w n name ≡ Some p
  entry_in_directory name p h = ap (option_and_then (λ f. entry_at (listing_in f.body) name)) there ∙ h

  -- an entry of a directory is what its file lists
  pub entry_in_file : (name : List ℕ) (p : ℕ × ℕ) → directory_entries w n name ≡ Some p
      → entry_at (listing_in f.body) name ≡ Some p
  entry_in_file name p h = sym (ap (option_and_then (λ f. entry_at (listing_in f.body) name)) there) ∙ h

  -- a number that it names has an entry
  pub entry_with_number : (m : ℕ) → HasDistinctNames (listing_in f.body).entries → 0 < names_in m f
      → (name : List ℕ) × (c : ℕ) × (directory_entries w n name ≡ Some (m, c))
  entry_with_number m distinct h =
      let e =
      counted nat_list_eq_equiv (λ (p : ℕ × ℕ). one_if m ([], p))
      (listing_in f.body).entries distinct h in
      (e.0, e.1.1, entry_in_directory e.0 (m, e.1.1) (e.2 ∙ ap (λ k. Some (k, e.1.1)) (named_one m e.1 e.3)))

  -- each entry is one of the directory
  pub entry_in_order : HasDistinctNames (listing_in f.body).entries → (i : ℕ) (d : List ℕ × (ℕ × ℕ))
      → i < length (listing_in f.body).entries
      → directory_entries w n (get_or (listing_in f.body).entries i d).0
      ≡ Some (get_or (listing_in f.body).entries i d).1
  entry_in_order distinct i d h =
      entry_in_directory (get_or (listing_in f.body).entries i d).0 (get_or (listing_in f.body).entries i d).1
      (lookup_from_place nat_list_eq_equiv (listing_in f.body).entries i
      (get_or (listing_in f.body).entries i d).0 (get_or (listing_in f.body).entries i d).1 distinct
      (slice_get-get_or (listing_in f.body).entries i d h))

  -- what holds of each entry's number, or name, holds of each directory entry's
  pub number_of_entry : (P : ℕ → Type 0) → All (λ (x : List ℕ × (ℕ × ℕ)). P x.1.0) (listing_in f.body).entries
      → (name : List ℕ) (p : ℕ × ℕ) → directory_entries w n name ≡ Some p → P p.0
  number_of_entry P all name p h =
      looked_up (λ (p : ℕ × ℕ). P p.0) (pointwise nat_eq name) (listing_in f.body).entries p
      (recursion_from_All (λ (x : List ℕ × (ℕ × ℕ)). P x.1.0) (listing_in f.body).entries all)
      (entry_in_file name p h)

  -- what holds of each entry's name holds of the name of each directory entry
  pub name_of_entry : (P : List ℕ → Type 0)
      → All (λ (x : List ℕ × (ℕ × ℕ)). P x.0) (listing_in f.body).entries → (name : List ℕ) (p : ℕ × ℕ)
      → directory_entries w n name ≡ Some p → P name
  name_of_entry P all name p h =
      found_key P name (listing_in f.body).entries p
      (recursion_from_All (λ (x : List ℕ × (ℕ × ℕ)). P x.0) (listing_in f.body).entries all)
      (entry_in_file name p h)
