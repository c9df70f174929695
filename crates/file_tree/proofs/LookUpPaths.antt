-- Look-ups, as steps along paths: a name found in a directory is one step on from each path to it, and `..`
-- is one step back.
-- Serves: `Tree::lookup`.
use Rattle.std.proofs.Common.{◌≡◌, ℕ, Bool, true, false, List, Option, Some, None, Result, Ok, Err}
use Rattle.std.proofs.Common.{option_map, option_and_then, if◌then◌else◌, refl, sym, ap, subst, ◌∙◌}
use Rattle.nfs_spec.specs.nfs_items.Caller.{Caller}
use Rattle.nfs_spec.specs.nfs_items.declared.stat.Stat.{Stat}
use Rattle.nfs_spec.specs.nfs_items.declared.stat.Stat.TheVariants as stats
use Rattle.nfs_spec.specs.fs_spec.Listing.{entry_at}
use Rattle.nfs_spec.specs.fs_spec.Names.{dot_dot, is_name}
use Rattle.nfs_spec.specs.fs_spec.Files.{Body, Regular, Symlink, Directory, File, Files, file_at, listing_in}
use Rattle.nfs_spec.specs.fs_spec.Files.{is_directory, directory_entries, parent_of}
use Rattle.nfs_spec.specs.fs_spec.Trees.{IsFileTree}
use Rattle.nfs_spec.proofs.fs_spec.Walks.{step_last}
use Rattle.nfs_spec.proofs.fs_spec.Parents.{parent_path}
use Rattle.nfs_spec.specs.ProcedureChecks.{◌>>=◌, ok_or, listing_or, may_search}
use Rattle.nfs_spec.specs.Effects.{number_named, number_at_name}
use Rattle.nfs_spec.proofs.Lookups.{plain_name}
use Rattle.file_tree.specs.LookUps.{LeadsOn, LeadsBack}

module _ (w : Files) (who : Caller) (dir : ℕ) (name : List ℕ) where
  -- the number that is at the name, or NOENT
  pub record IsAt (o : Option ℕ) (r : Result ℕ Stat) : Type 0 where
    -- a number that was found is there
    pub found : (k : ℕ) → r ≡ Ok k → o ≡ Some k
    -- NOENT: nothing is there
    pub absent : r ≡ Err stats.NoEnt → o ≡ None

  no : (o : Option ℕ) (e : Stat) → (e ≡ stats.NoEnt → ⊥) → IsAt o (Err e)
  no o e other = record { found = λ k h. cc; absent = λ h. absurd (other (same h)) }
    where
      same : ◌≡◌ {A = Result ℕ Stat} (Err e) (Err stats.NoEnt) → e ≡ stats.NoEnt
      same h = cc

  found : (o : Option ℕ) → IsAt o (ok_or stats.NoEnt o)
  found None = record { found = λ k h. cc; absent = λ h. refl }
  found (Some n) = record { found = λ k h. cc; absent = λ h. cc }

  module _ (named : is_name name ≡ true) where
    listed : (f : File) (b : Body)
        → IsAt (option_map (λ e. e.0) (entry_at (listing_in b) name))
        (listing_or stats.NotDir b
        >>= (λ l. if may_search who f then ok_or stats.NoEnt
        (number_named w dir l name) else Err stats.Acces))
    listed f (Regular bytes) = no _ stats.NotDir (λ h. cc)
    listed f (Symlink target) = no _ stats.NotDir (λ h. cc)
    listed f (Directory l) =
        elim (may_search who f) as
        (λ b. IsAt (option_map (λ e. e.0) (entry_at l name))
        (if b then ok_or stats.NoEnt (number_named w dir l name) else Err stats.Acces)) [
          | true ↦ subst (λ o. IsAt (option_map (λ e. e.0) (entry_at l name)) (ok_or stats.NoEnt o))
              (sym (plain_name w dir l name named))
              (found (option_map (λ e. e.0) (entry_at l name)))
          | false ↦ no _ stats.Acces (λ h. cc)
        ]

    -- a look-up of a plain name tells what is there
    pub at_name : IsAt (option_map (λ e. e.0) (directory_entries w dir name)) (number_at_name w who dir name)
    at_name =
        elim (file_at w dir) as (λ o. IsAt
        (option_map (λ e. e.0) (option_and_then (λ f. entry_at (listing_in f.body) name) o))
        (ok_or stats.Stale o >>=
        (λ f. listing_or stats.NotDir f.body
        >>= (λ l. if may_search who f then ok_or stats.NoEnt
        (number_named w dir l name) else Err stats.Acces)))) [
          | None ↦ no _ stats.Stale (λ h. cc)
          | Some f ↦ listed f f.body
        ]

    -- what is there is where each path to the directory leads on
    pub leads_on : (o : Option ℕ) → option_map (λ e. e.0) (directory_entries w dir name) ≡ o
        → LeadsOn (directory_entries w) dir name o
    leads_on o is path cookie at =
        ap (option_map (λ e. e.0)) (step_last (directory_entries w) path name dir cookie at) ∙ is

-- `..` of a directory
module _ (w : Files) (who : Caller) (dir k : ℕ) where
  searched : (b : Bool) → (if b then Ok (parent_of w dir) else Err stats.Acces) ≡ Ok k → parent_of w dir ≡ k
  searched true h = cc
  searched false h = cc

  in_body : (f : File) (b : Body)
      → (listing_or stats.NotDir b
      >>= (λ l. if may_search who f then ok_or stats.NoEnt
      (number_named w dir l dot_dot) else Err stats.Acces)) ≡ Ok k
      → (is_directory b ≡ true) × (parent_of w dir ≡ k)
  in_body f (Regular bytes) h = cc
  in_body f (Symlink target) h = cc
  in_body f (Directory l) h = (refl, searched (may_search who f) h)

  in_file : (o : Option File)
      → (ok_or stats.Stale o >>=
      (λ f. listing_or stats.NotDir f.body
      >>= (λ l. if may_search who f then ok_or stats.NoEnt
      (number_named w dir l dot_dot) else Err stats.Acces))) ≡ Ok k
      → (option_map (λ f. is_directory f.body) o ≡ Some true) × (parent_of w dir ≡ k)
  in_file None h = cc
  in_file (Some f) h = let b = in_body f f.body h in (ap (λ t. Some t) b.0, b.1)

  -- what `..` gives is where each path to the directory came from
  pub leads_back : IsFileTree w → number_at_name w who dir dot_dot ≡ Ok k
      → LeadsBack (directory_entries w) dir k
  leads_back tree h path name cookie at =
      let d = in_file (file_at w dir) h in
      ap (option_map (λ e. e.0)) (parent_path w tree dir cookie d.0 path name at).1 ∙ ap (λ n. Some n) d.1
