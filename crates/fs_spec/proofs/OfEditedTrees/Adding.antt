-- A name more leaves a tree a tree, with one path more.
-- Serves: making_adds_a_path, trees_stay_trees (nfs_laws).
use Rattle.std.proofs.Common.{◌≡◌, ◌≢◌, ⊎_elim, ℕ, ◌+◌, ◌<◌, ◌≤◌, true, List, [], ◌∷◌, ◌++◌, Some, None}
use Rattle.std.proofs.Common.{IsSome, is_some, sym, ap, subst, ◌∙◌, arith}
use Rattle.std.specs.Prelude.{IsTrue, length}
use Rattle.std.proofs.lemmas.Bool.{cases_eq}
use Rattle.fs_spec.specs.Names.{is_name}
use Rattle.fs_spec.specs.Paths.{path_at, AddsPath, ChangesEntry}
use Rattle.fs_spec.specs.Files.{Files, IsDirectory, directory_entries, names_of}
use Rattle.fs_spec.specs.Trees.{IsFileTree}
use Rattle.fs_spec.proofs.Walks.{none_some, one_number, same_entry}
use Rattle.fs_spec.proofs.OnePath.{one_path}
use Rattle.fs_spec.proofs.OfChanges.Listings.{one, one_same, one_other}
use Rattle.fs_spec.proofs.OfChanges.Shapes.{kind, AllFiles}
use Rattle.fs_spec.proofs.OfEditedTrees.Building.{IsWellNamed, built, facts}
use Rattle.fs_spec.proofs.OfEditedTrees.PathChanges.{adds}

-- a name more of a number, new or old, that lists nothing
pub record IsAdded (w w' : Files) (d : ℕ) (x : List ℕ) (k cookie : ℕ) : Type 0 where
  -- the name goes into a directory
  pub dir : kind w d ≡ Some true
  -- which doesn't have the name yet
  pub free : directory_entries w d x ≡ None
  -- the name leads to the number then, with this cookie, and each other name to what it led to
  pub change : ChangesEntry (directory_entries w) (directory_entries w') d x (Some (k, cookie))
  -- the number lists nothing then
  pub empty : (y : List ℕ) → directory_entries w' k y ≡ None
  -- all other numbers keep their kinds
  pub kinds : (n : ℕ) → n ≢ k → kind w' n ≡ kind w n
  -- the number is there then
  pub there : IsSome (kind w' k)
  -- it isn't the root
  pub not_root : k ≢ 1
  -- if it is a directory, it had no name before
  pub fresh : kind w' k ≡ Some true → names_of w k ≡ 0
  -- the number has one name more, all others as many as before
  pub names : (n : ℕ) → names_of w' n ≡ names_of w n + one n k
  -- the number is above 0 and below the next that is given
  pub number : (1 ≤ k) × (k < w'.next)
  -- no number is given back
  pub next : w.next ≤ w'.next
  -- the name is one that an entry may have
  pub name : IsTrue (is_name x) × (length x ≤ 255)
  -- each file is still as a file may be
  pub files : AllFiles w'

module _ (w w' : Files) (tree : IsFileTree w) (d : ℕ) (x : List ℕ) (k cookie : ℕ)
    (a : IsAdded w w' d x k cookie) where
  old : IsWellNamed w
  old = facts w tree

  -- a name more is one path more
  pub adds_path : (path : List (List ℕ)) (c : ℕ) → path_at (directory_entries w) path ≡ Some (d, c)
      → AddsPath (path_at (directory_entries w)) (path_at (directory_entries w')) (path ++ x ∷ []) k cookie
  adds_path path c at =
      adds (directory_entries w) (IsDirectory w) (one_path w tree) path d c x a.dir at
      (directory_entries w') k cookie a.change a.free a.empty

  -- an old directory keeps its path
  kept : (n : ℕ) → kind w n ≡ Some true
      → (p : List (List ℕ)) × (c : ℕ) × (path_at (directory_entries w') p ≡ Some (n, c))
  kept n is =
      let r = tree.tree.reached n is in
      let above = tree.tree.reached d a.dir in
      let law = adds_path above.0 above.1 above.2 in (
        r.0,
        r.1,
        law.others r.0
            (λ e. none_some (sym law.free ∙ sym (ap (path_at (directory_entries w)) e) ∙ r.2)) ∙ r.2,
      )

  added : (n : ℕ) → n ≡ k → (p : List (List ℕ)) × (c : ℕ) × (path_at (directory_entries w') p ≡ Some (n, c))
  added n e =
      let above = tree.tree.reached d a.dir in
      let law = adds_path above.0 above.1 above.2 in
      (above.0 ++ x ∷ [], cookie, law.added ∙ ap (λ m. Some (m, cookie)) (sym e))

  there : (n : ℕ) (y : List ℕ) (m c : ℕ) → directory_entries w' n y ≡ Some (m, c) → IsSome (kind w' m)
  there n y m c h = ⊎_elim
      (λ e. subst (λ m. IsSome (kind w' m))
      (one_number k cookie m c
      (sym a.change.here ∙ sym (λ i. directory_entries w' (e.0 i) (e.1 i)) ∙ h)) a.there)
      (λ ne. still m (tree_there n y m c (sym (a.change.rest n y ne) ∙ h)))
      (same_entry n d y x)
    where
      tree_there : (n : ℕ) (y : List ℕ) (m c : ℕ) → directory_entries w n y ≡ Some (m, c) → IsSome (kind w m)
      tree_there n y m c h = (facts w tree).there n y m c h

      still : (m : ℕ) → IsSome (kind w m) → IsSome (kind w' m)
      still m is =
          ⊎_elim (λ e. subst (λ m. IsSome (kind w' m)) (sym e) a.there) (λ ne. ap is_some (a.kinds m ne) ∙ is)
          (cases_eq m k)

  -- with a name more a tree stays a tree
  pub stays_added : IsFileTree w'
  stays_added = built w' (record {
    root_is = a.kinds 1 (λ e. a.not_root (sym e)) ∙ tree.tree.root;
    reached = λ n is. ⊎_elim (added n) (λ ne. kept n (sym (a.kinds n ne) ∙ is)) (cases_eq n k);
    there = there;
    root = let own = one_other 1 k (λ e. a.not_root (sym e)) in omega (arith, a.names 1, own, tree.root);
    directories = λ n not is. ⊎_elim
        (λ e. let own = one_same n k e in let same = ap (names_of w) e in
        omega (arith, a.names n, own, same, a.fresh (ap (kind w') (sym e) ∙ is)))
        (λ ne. let own = one_other n k ne in
        omega (arith, a.names n, own, tree.directories n not (sym (a.kinds n ne) ∙ is)))
        (cases_eq n k);
    named = λ n not is. ⊎_elim
        (λ e. let own = one_same n k e in omega (arith, a.names n, own))
        (λ ne. omega (arith, a.names n, (facts w tree).named n not (ap is_some (sym (a.kinds n ne)) ∙ is)))
        (cases_eq n k);
    numbers = λ n is. ⊎_elim
        (λ e. (omega (arith, a.number), omega (arith, a.number)))
        (λ ne. let was = (facts w tree).numbers n (ap is_some (sym (a.kinds n ne)) ∙ is) in
        (was.0, omega (arith, was, a.next)))
        (cases_eq n k);
    names = λ n name is. ⊎_elim
        (λ e. subst (λ y. IsTrue (is_name y) × (length y ≤ 255)) (sym e.1) a.name)
        (λ ne. tree.names n name (ap is_some (sym (a.change.rest n name ne)) ∙ is))
        (same_entry n d name x);
    files = a.files;
  })
