-- The directory that names a directory.
-- Serves: lookup_goes_by_paths, what_is_there_is_not_stale (nfs_spec).
use Rattle.std.proofs.Common.{◌≡◌, ⊎_elim, ℕ, List, [], ◌∷◌, ◌++◌, Some, IsSome, sym, ap, subst, ◌∙◌, eqb}
use Rattle.std.proofs.Common.{eq-eqb}
use Rattle.std.proofs.lemmas.Bool.{cond-true}
use Rattle.fs_spec.specs.Paths.{path_at}
use Rattle.fs_spec.specs.Files.{Files, file_at, IsDirectory, directory_entries, parent_of}
use Rattle.fs_spec.specs.Trees.{IsFileTree}
use Rattle.fs_spec.proofs.Walks.{one_number, last_name, last_step}

-- the root is above itself
pub root_parent : (w : Files) (n : ℕ) → n ≡ 1 → parent_of w n ≡ 1
root_parent w n e = cond-true (eqb n 1) 1 _ (eq-eqb n 1 e)

module _ (w : Files) (tree : IsFileTree w) (n c : ℕ) (is : IsDirectory w n) where
  -- a path to a directory goes through the one above it
  pub parent_path : (front : List (List ℕ)) (last : List ℕ)
      → path_at (directory_entries w) (front ++ last ∷ []) ≡ Some (n, c)
      → (b : ℕ) × (path_at (directory_entries w) front ≡ Some (parent_of w n, b))
  parent_path front last h =
      let s = last_step (directory_entries w) (1, 0) front last n c h in
      (s.1, s.2 ∙ ap (λ m. Some (m, s.1)) (sym (tree.tree.up s.0 last n c s.3 is)))

-- it is there
pub parent_there : (w : Files) → IsFileTree w → (n : ℕ) → IsDirectory w n → IsSome (file_at w (parent_of w n))
parent_there w tree n is =
    let r = tree.tree.reached n is in
    ⊎_elim
    (λ e. subst (λ m. IsSome (file_at w m))
    (sym (root_parent w n (one_number n r.1 1 0 (sym r.2 ∙ ap (path_at (directory_entries w)) e))))
    (tree.tree.there 1 tree.tree.root))
    (λ l.
    let s = last_step (directory_entries w) (1, 0) l.0 l.1 n r.1
    (sym (ap (path_at (directory_entries w)) l.2) ∙ r.2) in
    subst (λ m. IsSome (file_at w m)) (sym (tree.tree.up s.0 l.1 n r.1 s.3 is))
    (tree.tree.there s.0 (tree.tree.lists s.0 l.1 n r.1 s.3)))
    (last_name r.0)
