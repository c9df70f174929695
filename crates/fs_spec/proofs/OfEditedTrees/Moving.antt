-- Another name for what a name stands for leaves a tree a tree, and moves the paths below it.
-- Serves: renaming_moves_paths, trees_stay_trees (nfs_laws).
use Rattle.std.proofs.Common.{◌≡◌, ◌≢◌, ⊎_elim, ℕ, ◌≤◌, true, false, List, [], ◌∷◌, ◌++◌, Option, Some, None}
use Rattle.std.proofs.Common.{IsSome, is_some, option_map, option_and_then, sym, ap, subst, ◌∙◌, append-nil}
use Rattle.std.proofs.Common.{arith}
use Rattle.std.specs.Prelude.{IsTrue, length}
use Rattle.fs_spec.specs.Names.{is_name}
use Rattle.fs_spec.specs.Paths.{walk, path_at, Renames}
use Rattle.fs_spec.specs.Files.{Files, IsDirectory, directory_entries, names_of}
use Rattle.fs_spec.specs.Trees.{IsFileTree}
use Rattle.fs_spec.proofs.Walks.{none_some, one_number, same_entry, step}
use Rattle.fs_spec.proofs.OnePath.{one_path}
use Rattle.fs_spec.proofs.OfChanges.Shapes.{kind, AllFiles}
use Rattle.fs_spec.proofs.OfEditedTrees.Building.{built, facts}
use Rattle.fs_spec.proofs.OfEditedTrees.PathChanges.{begins, renames}

-- what stood at the new name lists nothing; what the old name stood for stands there
pub record IsRenamed (w w' : Files) (d₁ : ℕ) (x₁ : List ℕ) (d₂ : ℕ) (x₂ : List ℕ)
    (s sc cookie : ℕ) : Type 0 where
  -- the new name goes into a directory
  pub dir : kind w d₂ ≡ Some true
  -- the old name leads to the file that is moved
  pub source : directory_entries w d₁ x₁ ≡ Some (s, sc)
  -- no path below that file leads to the directory of the new name
  pub not_above : (r : List (List ℕ)) (c : ℕ) → walk (directory_entries w) (s, sc) r ≢ Some (d₂, c)
  -- what the new name led to, if anything, lists nothing
  pub target : (t c : ℕ) → directory_entries w d₂ x₂ ≡ Some (t, c) → (y : List ℕ)
      → directory_entries w t y ≡ None
  -- the new name leads to the moved file then, with this cookie
  pub put : directory_entries w' d₂ x₂ ≡ Some (s, cookie)
  -- the old name leads to nothing then
  pub taken : directory_entries w' d₁ x₁ ≡ None
  -- all other names lead to what they led to
  pub rest : (n : ℕ) (y : List ℕ) → ((n ≡ d₁) × (y ≡ x₁) → ⊥) → ((n ≡ d₂) × (y ≡ x₂) → ⊥)
      → directory_entries w' n y ≡ directory_entries w n y

-- another name for what a name stands for moves its path and those below
pub renames_path : (w w' : Files) → IsFileTree w
    → (d₁ : ℕ) (x₁ : List ℕ) (d₂ : ℕ) (x₂ : List ℕ) (s sc cookie : ℕ) → IsRenamed w w' d₁ x₁ d₂ x₂ s sc cookie
    → (p₁ p₂ : List (List ℕ)) (c₁ c₂ : ℕ) → path_at (directory_entries w) p₁ ≡ Some (d₁, c₁)
    → path_at (directory_entries w) p₂ ≡ Some (d₂, c₂)
    → Renames (path_at (directory_entries w)) (path_at (directory_entries w')) (p₁ ++ x₁ ∷ [])
    (p₂ ++ x₂ ∷ []) cookie
renames_path w w' tree d₁ x₁ d₂ x₂ s sc cookie a p₁ p₂ c₁ c₂ at₁ at₂ =
    renames (directory_entries w) (directory_entries w') (IsDirectory w)
    (one_path w tree) p₁ p₂ d₁ c₁ d₂ c₂ x₁ x₂ s sc cookie
    (tree.tree.lists d₁ x₁ s sc a.source) at₁ a.dir at₂ a.source a.not_above a.target a.put a.taken a.rest

-- and nothing else changes
pub record IsMoved (w w' : Files) (d₁ : ℕ) (x₁ : List ℕ) (d₂ : ℕ) (x₂ : List ℕ)
    (s sc cookie : ℕ) : Type 0 where
  -- what the old name led to stands at the new one
  pub renamed : IsRenamed w w' d₁ x₁ d₂ x₂ s sc cookie
  -- the new name led to nothing before
  pub free : directory_entries w d₂ x₂ ≡ None
  -- all numbers keep their kinds
  pub kinds : (n : ℕ) → kind w' n ≡ kind w n
  -- each number has as many names as before
  pub names : (n : ℕ) → names_of w' n ≡ names_of w n
  -- the next number stays
  pub next : w'.next ≡ w.next
  -- the new name is one that an entry may have
  pub name : IsTrue (is_name x₂) × (length x₂ ≤ 255)
  -- each file is still as a file may be
  pub files : AllFiles w'

nothing_there : {A : Type 0} (o : Option A) → o ≡ None → IsSome o → ⊥
nothing_there o e h = tf (sym (ap is_some e) ∙ h)
  where
    tf : false ≡ true → ⊥
    tf h = cc

module _ (w w' : Files) (tree : IsFileTree w) (d₁ : ℕ) (x₁ : List ℕ) (d₂ : ℕ) (x₂ : List ℕ) (s sc cookie : ℕ)
    (a : IsMoved w w' d₁ x₁ d₂ x₂ s sc cookie) where
  moved_path : (n : ℕ) (p₁ p₂ : List (List ℕ)) (c₁ c₂ : ℕ) → path_at (directory_entries w) p₁ ≡ Some (d₁, c₁)
      → path_at (directory_entries w) p₂ ≡ Some (d₂, c₂)
      → (p : List (List ℕ)) (c : ℕ) → path_at (directory_entries w) p ≡ Some (n, c)
      → (q : List (List ℕ)) × (e : ℕ) × (path_at (directory_entries w') q ≡ Some (n, e))
  moved_path n p₁ p₂ c₁ c₂ at₁ at₂ p c h = ⊎_elim
      (λ b. below b.0 (sym (ap (path_at (directory_entries w)) b.1) ∙ h))
      (λ not_from. ⊎_elim
      (λ b. absurd (none_some (sym (step (directory_entries w) p₂ b.0 x₂ d₂ c₂ at₂
      ∙ ap (option_and_then (λ f. walk (directory_entries w) f b.0)) a.free)
      ∙ sym (ap (path_at (directory_entries w)) b.1) ∙ h)))
      (λ not_to. (p, c, law.others p not_to not_from ∙ h))
      (begins (p₂ ++ x₂ ∷ []) p))
      (begins (p₁ ++ x₁ ∷ []) p)
    where
      law : Renames (path_at (directory_entries w)) (path_at (directory_entries w')) (p₁ ++ x₁ ∷ [])
          (p₂ ++ x₂ ∷ []) cookie
      law = renames_path w w' tree d₁ x₁ d₂ x₂ s sc cookie a.renamed p₁ p₂ c₁ c₂ at₁ at₂

      below : (r : List (List ℕ)) → path_at (directory_entries w) ((p₁ ++ x₁ ∷ []) ++ r) ≡ Some (n, c)
          → (q : List (List ℕ)) × (e : ℕ) × (path_at (directory_entries w') q ≡ Some (n, e))
      below [] g = (
        p₂ ++ x₂ ∷ [],
        cookie,
        law.moved ∙ ap (option_map (λ e. (e.0, cookie)))
            (sym (ap (path_at (directory_entries w)) (append-nil (p₁ ++ x₁ ∷ []))) ∙ g),
      )
      below (y ∷ r) g = ((p₂ ++ x₂ ∷ []) ++ (y ∷ r), c, law.below (y ∷ r) (λ e. cc) ∙ g)

  kept : (n : ℕ) → kind w n ≡ Some true
      → (q : List (List ℕ)) × (e : ℕ) × (path_at (directory_entries w') q ≡ Some (n, e))
  kept n is =
      let r = tree.tree.reached n is in
      let r₁ = tree.tree.reached d₁ (tree.tree.lists d₁ x₁ s sc a.renamed.source) in
      let r₂ = tree.tree.reached d₂ a.renamed.dir in
      moved_path n r₁.0 r₂.0 r₁.1 r₂.1 r₁.2 r₂.2 r.0 r.1 r.2

  there : (n : ℕ) (y : List ℕ) (m c : ℕ) → directory_entries w' n y ≡ Some (m, c) → IsSome (kind w' m)
  there n y m c h = ap is_some (a.kinds m) ∙ ⊎_elim
      (λ e. subst (λ m. IsSome (kind w m))
      (one_number s cookie m c (sym a.renamed.put ∙ sym (λ i. directory_entries w' (e.0 i) (e.1 i)) ∙ h))
      ((facts w tree).there d₁ x₁ s sc a.renamed.source))
      (λ n₂. ⊎_elim
      (λ e. absurd (none_some (sym a.renamed.taken ∙ sym (λ i. directory_entries w' (e.0 i) (e.1 i)) ∙ h)))
      (λ n₁. (facts w tree).there n y m c (sym (a.renamed.rest n y n₁ n₂) ∙ h))
      (same_entry n d₁ y x₁))
      (same_entry n d₂ y x₂)

  -- with an entry moved a tree stays a tree
  pub stays_moved : IsFileTree w'
  stays_moved = built w' (record {
    root_is = a.kinds 1 ∙ tree.tree.root;
    reached = λ n is. kept n (sym (a.kinds n) ∙ is);
    there = there;
    root = a.names 1 ∙ tree.root;
    directories = λ n not is. a.names n ∙ tree.directories n not (sym (a.kinds n) ∙ is);
    named = λ n not is. omega
        (arith, a.names n, (facts w tree).named n not (ap is_some (sym (a.kinds n)) ∙ is));
    numbers = λ n is. let was = (facts w tree).numbers n (ap is_some (sym (a.kinds n)) ∙ is) in
        (was.0, omega (arith, was, a.next));
    names = λ n name is. ⊎_elim
        (λ e. subst (λ y. IsTrue (is_name y) × (length y ≤ 255)) (sym e.1) a.name)
        (λ n₂. ⊎_elim
        (λ e. absurd (nothing_there (directory_entries w' n name)
        ((λ i. directory_entries w' (e.0 i) (e.1 i)) ∙ a.renamed.taken) is))
        (λ n₁. tree.names n name (ap is_some (sym (a.renamed.rest n name n₁ n₂)) ∙ is))
        (same_entry n d₁ name x₁))
        (same_entry n d₂ name x₂);
    files = a.files;
  })
