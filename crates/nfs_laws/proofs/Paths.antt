-- What the procedures do to paths.
-- Serves: making_adds_a_path, removing_takes_a_path and renaming_moves_paths.
use Rattle.std.proofs.Common.{◌≡◌, ⊎_elim, ℕ, ◌≤◌, Bool, List, [], length, None, Some, refl, sym, ap, ◌∙◌}
use Rattle.nfs_spec.specs.nfs_items.Timeval.{Timeval}
use Rattle.nfs_spec.specs.nfs_items.Caller.{Caller}
use Rattle.nfs_spec.specs.fs_spec.Files.{File, Files, listing_in, listing, directory_entries}
use Rattle.nfs_spec.specs.fs_spec.Trees.{IsTime, IsFile, IsFileTree}
use Rattle.nfs_spec.proofs.fs_spec.Walks.{one_number}
use Rattle.nfs_spec.proofs.fs_spec.OfEditedTrees.Adding.{adds_path}
use Rattle.nfs_spec.proofs.fs_spec.OfEditedTrees.Taking.{takes_path}
use Rattle.nfs_spec.specs.Sattr.{GivenFields}
use Rattle.nfs_laws.specs.Steps.Granted.{MakeOk, CreateOk, LinkOk, UnnameOk, IsSameFile, RenameOk}
use Rattle.nfs_laws.specs.Steps.Granted.{new_regular}
use Rattle.nfs_laws.proofs.OfTrees.Making.{make_added, link_added}
use Rattle.nfs_laws.proofs.OfTrees.Removing.{remove_taken}
use Rattle.nfs_laws.proofs.OfTrees.Renaming.{renames_paths}
use Rattle.nfs_laws.specs.Laws.{AreValidFields, NamesIn, UnnamesIn, RenamesIn}
use Rattle.nfs_laws.proofs.FilesFit.{regular_fits}

module _ (now : Timeval) (time : IsTime now) (w : Files) (tree : IsFileTree w) (who : Caller) where
  -- what makes a file adds a path
  pub make_adds : (dir : ℕ) (name : List ℕ) → length name ≤ 255 → (f : File)
      → (listing_in f.body).entries ≡ [] → IsFile f → (number : ℕ) (after : Files)
      → MakeOk w who now dir name f number after → (number ≡ w.next) × NamesIn w after dir name number
  make_adds dir name bound f empty fits number after o = (
    o.is_next,
    adds_path w after tree dir name number (listing w dir).next
        (make_added now time w tree who dir name bound f empty fits number after o),
  )

  -- CREATE of a name that isn't there
  pub create_adds : (dir : ℕ) (name : List ℕ) → length name ≤ 255 → (a : GivenFields) → AreValidFields a
      → (number : ℕ) (after : Files) → CreateOk w who now dir name a number after
      → directory_entries w dir name ≡ None
      → (number ≡ w.next) × NamesIn w after dir name number
  create_adds dir name bound a is number after o free =
      let new = o.fresh free in
      make_adds dir name bound (new_regular who now a) refl
      (regular_fits who now time a is new.fits) number after new.make

  -- LINK
  pub link_adds : (from dir : ℕ) (name : List ℕ) → length name ≤ 255 → (after : Files)
      → LinkOk w who now from dir name after → NamesIn w after dir name from
  link_adds from dir name bound after o =
      adds_path w after tree dir name from (listing w dir).next
      (link_added now time w tree who dir name bound from after o)

  -- REMOVE and RMDIR
  pub remove_takes : (kind : Bool) (dir : ℕ) (name : List ℕ) (after : Files)
      → UnnameOk kind w who now dir name after → UnnamesIn w after dir name
  remove_takes kind dir name after o =
      takes_path w after tree dir name o.number o.cookie
      (remove_taken now time w tree who dir name after kind o)

  -- RENAME
  pub rename_moves : (from : ℕ) (from_name : List ℕ) (to : ℕ) (to_name : List ℕ) → length to_name ≤ 255
      → (after : Files) → RenameOk w who now from from_name to to_name after
      → (IsSameFile w from from_name to to_name → after ≡ w)
      × ((IsSameFile w from from_name to to_name → ⊥) → RenamesIn w after from from_name to to_name)
  rename_moves from from_name to to_name bound after o = ⊎_elim
      (λ same. (λ _. same.1, λ not. absurd (not same.0)))
      (λ m. (
        λ s. absurd (m.other s.2
            (s.4 ∙ ap (λ k. Some (k, s.2)) (one_number s.0 s.1 o.number o.cookie (sym s.3 ∙ o.is_named)))),
        λ _. renames_paths now time w tree who from from_name to to_name after o m bound,
      ))
      o.outcome
