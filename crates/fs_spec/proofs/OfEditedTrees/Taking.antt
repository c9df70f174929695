-- A name less leaves a tree a tree, with one path less.
-- Serves: removing_takes_a_path, trees_stay_trees (nfs_laws).
use Rattle.std.proofs.Common.{◌≡◌, ◌≢◌, ◌⊎◌, ⊎_elim, ℕ, ◌+◌, ◌<◌, ◌≤◌, Bool, true, false, List, [], ◌∷◌, ◌++◌}
use Rattle.std.proofs.Common.{Option, Some, None, IsSome, is_some, sym, ap, ◌∙◌, arith}
use Rattle.std.proofs.lemmas.Bool.{cases_eq}
use Rattle.fs_spec.specs.Paths.{path_at, TakesPath, ChangesEntry}
use Rattle.fs_spec.specs.Files.{Files, IsDirectory, directory_entries, names_of}
use Rattle.fs_spec.specs.Trees.{IsFileTree}
use Rattle.fs_spec.proofs.Walks.{none_some, one_number, same_entry, step_last}
use Rattle.fs_spec.proofs.Counts.{has_name}
use Rattle.fs_spec.proofs.OnePath.{one_path, root_has_no_name}
use Rattle.fs_spec.proofs.OfChanges.Listings.{one, one_other}
use Rattle.fs_spec.proofs.OfChanges.Shapes.{kind, AllFiles}
use Rattle.fs_spec.proofs.OfEditedTrees.Building.{built, facts}
use Rattle.fs_spec.proofs.OfEditedTrees.PathChanges.{takes}

-- a name less of a number that lists nothing: a file with names left, or gone with its last name
pub record IsTaken (w w' : Files) (d : ℕ) (x : List ℕ) (k cookie : ℕ) : Type 0 where
  -- the name led to the number
  pub had : directory_entries w d x ≡ Some (k, cookie)
  -- it leads to nothing then, and each other name to what it led to
  pub change : ChangesEntry (directory_entries w) (directory_entries w') d x None
  -- the number lists nothing
  pub empty : (y : List ℕ) → directory_entries w k y ≡ None
  -- all other numbers keep their kinds
  pub kinds : (n : ℕ) → n ≢ k → kind w' n ≡ kind w n
  -- it is no directory and keeps a name, or it is gone and has none
  pub left : ((kind w' k ≡ Some false) × (kind w k ≡ Some false) × (0 < names_of w' k))
      ⊎ ((kind w' k ≡ None) × (names_of w' k ≡ 0))
  -- it has one name less, all others as many as before
  pub names : (n : ℕ) → names_of w' n + one n k ≡ names_of w n
  -- no number is given back
  pub next : w.next ≤ w'.next
  -- each file is still as a file may be
  pub files : AllFiles w'

some_false : ◌≡◌ {A = Option Bool} (Some false) (Some true) → ⊥
some_false h = cc

-- where nothing is, there isn't something
pub nothing_there : (o : Option Bool) → o ≡ None → IsSome o → ⊥
nothing_there o e h = tf (sym (ap is_some e) ∙ h)
  where
    tf : false ≡ true → ⊥
    tf h = cc

module _ (w w' : Files) (tree : IsFileTree w) (d : ℕ) (x : List ℕ) (k cookie : ℕ)
    (a : IsTaken w w' d x k cookie) where
  -- a name less is one path less
  pub takes_path : (path : List (List ℕ)) (c : ℕ) → path_at (directory_entries w) path ≡ Some (d, c)
      → TakesPath (path_at (directory_entries w)) (path_at (directory_entries w')) (path ++ x ∷ [])
  takes_path path c at =
      takes (directory_entries w) (IsDirectory w) (one_path w tree) path d c x
      (tree.tree.lists d x k cookie a.had) at (directory_entries w') k cookie a.change a.had a.empty

  not_root : 1 ≢ k
  not_root e = root_has_no_name w tree d cookie x (a.had ∙ ap (λ m. Some (m, cookie)) (sym e))

  -- it is no directory
  gone : (n : ℕ) → kind w' n ≡ Some true → n ≢ k
  gone n is e = ⊎_elim
      (λ l. some_false (sym l.0 ∙ ap (kind w') (sym e) ∙ is))
      (λ l. none_some (sym l.0 ∙ ap (kind w') (sym e) ∙ is))
      a.left

  kept : (n : ℕ) → n ≢ k → kind w n ≡ Some true
      → (p : List (List ℕ)) × (c : ℕ) × (path_at (directory_entries w') p ≡ Some (n, c))
  kept n ne is =
      let r = tree.tree.reached n is in
      let above = tree.tree.reached d (tree.tree.lists d x k cookie a.had) in
      let law = takes_path above.0 above.1 above.2 in (
        r.0,
        r.1,
        law.others r.0
            (λ e. ne (one_number n r.1 k cookie
            (sym r.2 ∙ ap (path_at (directory_entries w)) e
            ∙ step_last (directory_entries w) above.0 x d above.1 above.2 ∙ a.had))) ∙ r.2,
      )

  there : (n : ℕ) (y : List ℕ) (m c : ℕ) → directory_entries w' n y ≡ Some (m, c) → IsSome (kind w' m)
  there n y m c h = ⊎_elim
      (λ e. absurd (none_some (sym a.change.here ∙ sym (λ i. directory_entries w' (e.0 i) (e.1 i)) ∙ h)))
      (λ ne. ⊎_elim
      (λ e. ⊎_elim
      (λ l. ap is_some (ap (kind w') e ∙ l.0))
      (λ l. let own = has_name w' m n c y h in let same = ap (names_of w') e in
      absurd (omega (arith, own, same, l.1)))
      a.left)
      (λ other. ap is_some (a.kinds m other) ∙ (facts w tree).there n y m c (sym (a.change.rest n y ne) ∙ h))
      (cases_eq m k))
      (same_entry n d y x)

  -- with a name less a tree stays a tree
  pub stays_taken : IsFileTree w'
  stays_taken = built w' (record {
    root_is = a.kinds 1 not_root ∙ tree.tree.root;
    reached = λ n is. kept n (gone n is) (sym (a.kinds n (gone n is)) ∙ is);
    there = there;
    root = omega (arith, a.names 1, tree.root);
    directories = λ n not is. let ne = gone n is in let own = one_other n k ne in
        omega (arith, a.names n, own, tree.directories n not (sym (a.kinds n ne) ∙ is));
    named = λ n not is. ⊎_elim
        (λ e. ⊎_elim
        (λ l. let same = ap (names_of w') e in omega (arith, same, l.2))
        (λ l. absurd (nothing_there (kind w' n) (ap (kind w') e ∙ l.0) is))
        a.left)
        (λ ne. let own = one_other n k ne in
        omega (arith, a.names n, own, (facts w tree).named n not (ap is_some (sym (a.kinds n ne)) ∙ is)))
        (cases_eq n k);
    numbers = λ n is. ⊎_elim
        (λ e. let was = (facts w tree).numbers n (ap is_some (ap (kind w) e) ∙ was_there) in
        (was.0, omega (arith, was, a.next)))
        (λ ne. let was = (facts w tree).numbers n (ap is_some (sym (a.kinds n ne)) ∙ is) in
        (was.0, omega (arith, was, a.next)))
        (cases_eq n k);
    names = λ n name is. ⊎_elim
        (λ e. absurd (no_entry (directory_entries w' n name)
        ((λ i. directory_entries w' (e.0 i) (e.1 i)) ∙ a.change.here) is))
        (λ ne. tree.names n name (ap is_some (sym (a.change.rest n name ne)) ∙ is))
        (same_entry n d name x);
    files = a.files;
  })
    where
      was_there : IsSome (kind w k)
      was_there = (facts w tree).there d x k cookie a.had

      no_entry : (o : Option (ℕ × ℕ)) → o ≡ None → IsSome o → ⊥
      no_entry o e h = tf (sym (ap is_some e) ∙ h)
        where
          tf : false ≡ true → ⊥
          tf h = cc
