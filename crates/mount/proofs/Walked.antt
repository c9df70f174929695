-- A walk part by part, from number to number, reaches something exactly where the walk along the names does.
-- Serves: `lead_somewhere`.
use Rattle.std.proofs.Common.{◌≡◌, ℕ, ◌+◌, ◌<◌, Bool, true, false, cond, List, [], ◌∷◌, length, drop, get_or}
use Rattle.std.proofs.Common.{Option, Some, None, option_map, option_and_then, refl, sym, ap, ◌∙◌, arith}
use Rattle.std.specs.Prelude.{nat_lt, if◌then◌else◌}
use Rattle.std.specs.Option.{is_some, option_map_or}
use Rattle.std.specs.List.{filter}
use Rattle.std.proofs.lemmas.List.{at_drop_more, at_drop_all}
use Rattle.mount_types.specs.nfs_items.Terms.{Name}
use Rattle.file_tree.specs.fs_spec.Listing.{DirectoryEntry, file_number}
use Rattle.file_tree.specs.fs_spec.Paths.{DirectoryEntries, walk}
use Rattle.server_spec.specs.Walks.{number_after}

module _ (at : DirectoryEntries) where
  -- the parts from a number on lead to something
  abbrev pub lead_on : ℕ → List Name → Bool
  lead_on n parts = is_some (walk at (n, 0) (filter (λ name. nat_lt 0 (length name)) parts))

  -- a walk goes by the numbers alone
  by_number : (from : DirectoryEntry) (path : List Name)
      → is_some (walk at from path) ≡ is_some (walk at (file_number from, 0) path)
  by_number from [] = refl
  by_number from (name ∷ path) = refl

  one_part : (n : ℕ) (part : Name) (parts : List Name)
      → lead_on n (part ∷ parts) ≡ option_map_or (λ m. lead_on m parts) (number_after at n part) false
  one_part n part parts = chosen (nat_lt 0 (length part)) (filter (λ name. nat_lt 0 (length name)) parts)
    where
      found : (o : Option DirectoryEntry) (names : List Name)
          → is_some (option_and_then (λ next. walk at next names) o)
          ≡ option_map_or (λ m. is_some (walk at (m, 0) names)) (option_map file_number o) false
      found None names = refl
      found (Some e) names = by_number e names

      chosen : (b : Bool) (names : List Name)
          → is_some (walk at (n, 0) (cond b (part ∷ names) names))
          ≡ option_map_or (λ m. is_some (walk at (m, 0) names))
          (if b then option_map file_number (at n part) else Some n) false
      chosen true names = found (at n part) names
      chosen false names = refl

  module _ (all : List Name) (i n : ℕ) (part : Name) (within : i < length all)
      (is : part ≡ get_or all i part) where
    this_part : lead_on n (drop i all) ≡ option_map_or (λ m. lead_on m (drop (i + 1) all))
        (number_after at n part) false
    this_part =
        at_drop_more (lead_on n) all i part within
        ∙ ap (λ (p : Name). lead_on n (p ∷ drop (i + 1) all)) (sym is) ∙ one_part n part (drop (i + 1) all)

    -- at a number the walk goes on from it
    pub leads_from : (o : Option ℕ) (m : ℕ) → o ≡ number_after at n part → o ≡ Some m
        → lead_on n (drop i all) ≡ lead_on m (drop (i + 1) all)
    leads_from o m after some =
        this_part ∙ ap (λ (o : Option ℕ). option_map_or (λ m. lead_on m (drop (i + 1) all)) o false)
        (sym after ∙ some)

    -- and where there is none it leads nowhere
    pub leads_nowhere : (o : Option ℕ) → o ≡ number_after at n part → o ≡ None
        → lead_on n (drop i all) ≡ false
    leads_nowhere o after none =
        this_part ∙ ap (λ (o : Option ℕ). option_map_or (λ m. lead_on m (drop (i + 1) all)) o false)
        (sym after ∙ none)

  -- after the last part something is reached
  pub leads_to_end : (all : List Name) (i n : ℕ) → length all ≡ i → lead_on n (drop i all) ≡ true
  leads_to_end all i n end = at_drop_all (lead_on n) all i (omega (arith, end))
