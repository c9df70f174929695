-- Which digests are missing after RENAME.
-- Serves: `Tree::rename`.
use Rattle.std.proofs.Common.{◌≡◌, ◌≢◌, ℕ, Bool, true, false, List, [], ◌∷◌, ◌++◌, Option, Some, None}
use Rattle.std.proofs.Common.{option_map, refl, sym, ap, subst, ◌∙◌}
use Rattle.std.specs.Prelude.{◌||◌, if◌then◌else◌, unwrap_or}
use Rattle.std.specs.Option.{option_map_or}
use Rattle.std.specs.List.{list_any}
use Rattle.std.specs.Ordering.{nat_cmp, eq_by_cmp}
use Rattle.nfs_spec.specs.fs_spec.Files.{Files, directory_entries, file_at}
use Rattle.nfs_spec.specs.fs_spec.Listing.{DirectoryEntry}
use Rattle.nfs_spec.proofs.fs_spec.OfChanges.Finite.{cmp_same, cmp_other}
use Rattle.inode_table.specs.nfs_laws.Steps.Granted.{IsSameFile}
use Rattle.file_tree.specs.declared.digests.FileDigests.{FileDigests}
use Rattle.file_tree.specs.KeptDigests.{DropsOnly, Forgets}
use Rattle.file_tree.specs.Performs.{changed_by_rename, is_same_file, named_in}
use Rattle.file_tree.proofs.MissingDigests.{four_dropped, none_dropped, one_named, seen}

-- the numbers of what an entry names
abbrev number_of : Option DirectoryEntry → List ℕ
number_of o = option_map_or (λ (e : DirectoryEntry). e.0 ∷ []) o []

module _ (w : Files) (from : ℕ) (from_name : List ℕ) (to : ℕ) (to_name : List ℕ) where
  abbrev changed : Bool → List ℕ
  changed same =
      if same then [] else (from ∷ to ∷ named_in w from from_name ++ named_in w to to_name)

  -- where one file has both names, none is dropped
  pub one_file_dropped : (w' : Files) (k : FileDigests) → IsSameFile w from from_name to to_name
      → ((n : ℕ) → file_at w' n ≡ file_at w n)
      → DropsOnly (changed_by_rename w from from_name to to_name) (seen w k) (seen w' k)
  one_file_dropped w' k one same =
      subst (λ b. DropsOnly (changed b) (seen w k) (seen w' k)) (sym hit) (none_dropped w w' k same)
    where
      hit : is_same_file w from from_name to to_name ≡ true
      hit = ap (list_any (λ n. list_any (eq_by_cmp nat_cmp n) (named_in w to to_name)))
          (one_named w from from_name _ one.3)
          ∙ ap (λ ns. list_any (eq_by_cmp nat_cmp one.0) ns || false) (one_named w to to_name _ one.4)
          ∙ ap (λ b. (b || false) || false) (cmp_same one.0 one.0 refl)

  -- a name went from one directory to another, over what may have stood there
  module _ (number cookie : ℕ) (target : Option ℕ)
      (is_named : directory_entries w from from_name ≡ Some (number, cookie))
      (is_target : target ≡ option_map (λ (e : DirectoryEntry). e.0) (directory_entries w to to_name))
      (other : target ≢ Some number) where
    -- another file has the new name, if one has
    not_same : is_same_file w from from_name to to_name ≡ false
    not_same = ap (list_any (λ n. list_any (eq_by_cmp nat_cmp n) (named_in w to to_name)))
        (one_named w from from_name _ is_named)
        ∙ ap (λ b. b || false) (by (directory_entries w to to_name) is_target)
      where
        by : (o : Option DirectoryEntry) → target ≡ option_map (λ (e : DirectoryEntry). e.0) o
            → list_any (eq_by_cmp nat_cmp number) (number_of o) ≡ false
        by None is = refl
        by (Some e) is = ap (λ b. b || false)
            (cmp_other number e.0 (λ same. other (is ∙ ap (λ n. Some n) (sym same))))

    -- what goes is what has the new name, or else what moves
    alike : (n : ℕ) → list_any (eq_by_cmp nat_cmp n) (number ∷ unwrap_or target number ∷ [])
        ≡ list_any (eq_by_cmp nat_cmp n) (named_in w from from_name ++ named_in w to to_name)
    alike n =
        by (directory_entries w to to_name) is_target
        ∙ ap (λ ns. list_any (eq_by_cmp nat_cmp n) (ns ++ named_in w to to_name))
        (sym (one_named w from from_name _ is_named))
      where
        twice : (b : Bool) → (b || (b || false)) ≡ (b || false)
        twice true = refl
        twice false = refl

        by : (o : Option DirectoryEntry) → target ≡ option_map (λ (e : DirectoryEntry). e.0) o
            → list_any (eq_by_cmp nat_cmp n) (number ∷ unwrap_or target number ∷ [])
            ≡ list_any (eq_by_cmp nat_cmp n) (number ∷ number_of o)
        by None is =
            ap (λ t. list_any (eq_by_cmp nat_cmp n) (number ∷ unwrap_or t number ∷ [])) is
            ∙ twice (eq_by_cmp nat_cmp n number)
        by (Some e) is =
            ap (λ t. list_any (eq_by_cmp nat_cmp n) (number ∷ unwrap_or t number ∷ [])) is

    pub moved_dropped : (w' : Files) (k k₁ k₂ k₃ k₄ : FileDigests)
        → Forgets (unwrap_or target number) k k₁ → Forgets number k₁ k₂ → Forgets to k₂ k₃
        → Forgets from k₃ k₄
        → ((n : ℕ) → n ≢ unwrap_or target number → n ≢ number → n ≢ to → n ≢ from
        → file_at w' n ≡ file_at w n)
        → DropsOnly (changed_by_rename w from from_name to to_name) (seen w k) (seen w' k₄)
    moved_dropped w' k k₁ k₂ k₃ k₄ f g h i same =
        subst (λ b. DropsOnly (changed b) (seen w k) (seen w' k₄)) (sym not_same)
        (four_dropped w w' k (unwrap_or target number) number to from k₁ k₂ k₃ k₄ f g h i same
        (named_in w from from_name ++ named_in w to to_name) alike)
