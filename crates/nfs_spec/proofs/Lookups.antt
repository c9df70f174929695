-- LOOKUP goes by paths.
-- Serves: lookup_goes_by_paths (nfs_spec).
use Rattle.std.proofs.Common.{◌≡◌, ℕ, true, cond, List, [], ◌∷◌, ◌++◌, Option, Some, None, Result, Ok, Err}
use Rattle.std.proofs.Common.{option_map, option_and_then, refl, sym, ap, ◌∙◌}
use Rattle.std.specs.Prelude.{nat_eq, not}
use Rattle.std.specs.Cmp.Lexicographic.{pointwise}
use Rattle.std.proofs.lemmas.Bool.{and_parts, not-true, cond-true, cond-false}
use Rattle.fs_spec.specs.nfs_items.Caller.{Caller}
use Rattle.fs_spec.specs.nfs_items.Handle.{handle_of}
use Rattle.fs_spec.specs.nfs_items.declared.attributes.Fattr.{Fattr}
use Rattle.fs_spec.specs.nfs_items.declared.stat.Stat.{Stat}
use Rattle.fs_spec.specs.nfs_items.declared.stat.Stat.TheVariants as stats
use Rattle.fs_spec.specs.Listing.{Listing, entry_at}
use Rattle.fs_spec.specs.Names.{dot, dot_dot, is_name}
use Rattle.fs_spec.specs.Paths.{path_at}
use Rattle.fs_spec.specs.Files.{Body, Regular, Symlink, Directory, Files, listing_in, is_directory}
use Rattle.fs_spec.specs.Files.{IsDirectory, directory_entries}
use Rattle.fs_spec.specs.Trees.{IsFileTree}
use Rattle.fs_spec.proofs.Walks.{step_last}
use Rattle.fs_spec.proofs.Parents.{parent_path}
use Rattle.nfs_spec.specs.ProcedureChecks.{◌>>=◌, ok_or, listing_or, may_search}
use Rattle.nfs_spec.specs.Effects.{attributes_at, number_named, number_at_name, lookup}
use Rattle.nfs_spec.specs.LawTerms.{lookup_at_path, IsSearchable}

-- a directory has its listing
pub its_listing : (e : Stat) (b : Body) → is_directory b ≡ true → listing_or e b ≡ Ok (listing_in b)
its_listing e (Regular bytes) h = cc
its_listing e (Symlink target) h = cc
its_listing e (Directory l) h = refl

-- the handle and attributes of a number
abbrev pub shown : Files → Result ℕ Stat → Result (List ℕ × Fattr) Stat
shown w r = r >>= λ n. attributes_at w n >>= λ a. Ok (handle_of w.fsid n, a)

-- what a name other than `.` and `..` stands for
pub plain_name : (w : Files) (d : ℕ) (l : Listing) (name : List ℕ) → is_name name ≡ true
    → number_named w d l name ≡ option_map (λ e. e.0) (entry_at l name)
plain_name w d l name is =
    let a = and_parts (not (pointwise nat_eq name [])) _ is in
    let b = and_parts (not (pointwise nat_eq name dot)) _ a.1 in
    let c = and_parts (not (pointwise nat_eq name dot_dot)) _ b.1 in
    cond-false _ _ _ (not-true _ b.0) ∙ cond-false _ _ _ (not-true _ c.0) ∙ cond-true _ _ _ is

numbered : (w : Files) (o : Option (ℕ × ℕ))
    → shown w (ok_or stats.NoEnt (option_map (λ e. e.0) o))
    ≡ (ok_or stats.NoEnt o >>= λ e. attributes_at w e.0 >>= λ a. Ok (handle_of w.fsid e.0, a))
numbered w None = refl
numbered w (Some e) = refl

module _ (w : Files) (who : Caller) (dir : List ℕ) (path : List (List ℕ))
    (s : IsSearchable w who dir path) where
  searched : (name : List ℕ)
      → lookup w who dir name ≡ shown w (ok_or stats.NoEnt
      (number_named w s.number (listing_in s.file.body) name))
  searched name =
      ap (λ o. ok_or stats.Stale o >>= λ d. shown w (number_at_name w who d name)) s.named
      ∙ ap (λ o. shown w (ok_or stats.Stale o >>= λ f. listing_or stats.NotDir f.body
      >>= λ l. cond (may_search who f) (ok_or stats.NoEnt (number_named w s.number l name))
      (Err stats.Acces))) s.there
      ∙ ap (λ r. shown w (r >>= λ l. cond (may_search who s.file)
      (ok_or stats.NoEnt (number_named w s.number l name)) (Err stats.Acces)))
      (its_listing stats.NotDir s.file.body s.directory)
      ∙ ap (λ b. shown w (cond b (ok_or stats.NoEnt (number_named w s.number (listing_in s.file.body) name))
      (Err stats.Acces))) s.searched

  own_entry : (name : List ℕ)
      → path_at (directory_entries w) (path ++ name ∷ []) ≡ entry_at (listing_in s.file.body) name
  own_entry name =
      step_last (directory_entries w) path name s.number s.cookie s.reached
      ∙ ap (option_and_then (λ f. entry_at (listing_in f.body) name)) s.there

  -- LOOKUP of a name gives what the path with it leads to
  pub lookup_name : (name : List ℕ) → is_name name ≡ true
      → lookup w who dir name ≡ lookup_at_path w (path ++ name ∷ [])
  lookup_name name is =
      searched name
      ∙ ap (λ o. shown w (ok_or stats.NoEnt o))
      (plain_name w s.number (listing_in s.file.body) name is
      ∙ ap (option_map (λ e. e.0)) (sym (own_entry name)))
      ∙ numbered w (path_at (directory_entries w) (path ++ name ∷ []))

  is_dir : IsDirectory w s.number
  is_dir = ap (option_map (λ f. is_directory f.body)) s.there ∙ ap (λ b. Some b) s.directory

-- LOOKUP of `..` gives what the path without its last name leads to
pub lookup_above : (w : Files) (who : Caller) (dir last : List ℕ) (front : List (List ℕ)) → IsFileTree w
    → IsSearchable w who dir (front ++ last ∷ []) → lookup w who dir dot_dot ≡ lookup_at_path w front
lookup_above w who dir last front tree s =
    let above = parent_path w tree s.number s.cookie
    (is_dir w who dir (front ++ last ∷ []) s) front last s.reached in
    searched w who dir (front ++ last ∷ []) s dot_dot
    ∙ ap (λ (o : Option (ℕ × ℕ)). ok_or stats.NoEnt o >>= λ e. attributes_at w e.0
    >>= λ a. Ok (handle_of w.fsid e.0, a)) (sym above.1)
