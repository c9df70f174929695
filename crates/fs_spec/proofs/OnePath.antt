-- A directory has one name, so it has one path.
-- Serves: directories_have_one_path (fs_spec).
use Rattle.std.proofs.Common.{◌≡◌, ◌≢◌, ⊎_elim, ℕ, zero, suc, ◌≤◌, List, [], ◌∷◌, ◌++◌, length, Some, sym, ap}
use Rattle.std.proofs.Common.{◌∙◌, length-append, arith}
use Rattle.fs_spec.specs.Paths.{path_at, HasOnePathEach}
use Rattle.fs_spec.specs.Files.{Files, IsDirectory, directory_entries}
use Rattle.fs_spec.specs.Trees.{IsFileTree}
use Rattle.fs_spec.proofs.Walks.{one_number, same_entry, last_name, last_step}
use Rattle.fs_spec.proofs.Counts.{has_name, has_two}

-- paths with one front and one last name are one
joined : (p q front back : List (List ℕ)) (x y : List ℕ) → p ≡ front ++ x ∷ [] → q ≡ back ++ y ∷ []
    → front ≡ back → x ≡ y → p ≡ q
joined p q front back x y hp hq h e = hp ∙ (λ i. h i ++ e i ∷ []) ∙ sym hq

module _ (w : Files) (tree : IsFileTree w) where
  -- nothing leads to the root
  pub root_has_no_name : (d c : ℕ) (x : List ℕ) → directory_entries w d x ≢ Some (1, c)
  root_has_no_name d c x h = let one = has_name w 1 d c x h in absurd (omega (arith, one, tree.root))

  -- two entries of one directory are one
  pub one_entry : (n d e c b : ℕ) (x y : List ℕ) → IsDirectory w n → directory_entries w d x ≡ Some (n, c)
      → directory_entries w e y ≡ Some (n, b) → (d ≡ e) × (x ≡ y)
  one_entry n d e c b x y is g h = ⊎_elim
      (λ same. same)
      (λ apart.
      let not_root : n ≢ 1 = λ one. root_has_no_name d c x (g ∙ ap (λ m. Some (m, c)) one) in
      let two = has_two w n d e c b x y g h apart in
      absurd (omega (arith, two, tree.directories n not_root is)))
      (same_entry d e x y)

  root_path : (q : List (List ℕ)) (d : ℕ) → path_at (directory_entries w) q ≡ Some (1, d) → q ≡ []
  root_path q d h = ⊎_elim
      (λ e. e)
      (λ l. let s = last_step (directory_entries w) (1, 0) l.0 l.1 1 d
      (sym (ap (path_at (directory_entries w)) l.2) ∙ h) in absurd (root_has_no_name s.0 d l.1 s.3))
      (last_name q)

  one_path_of : (k : ℕ) (p q : List (List ℕ)) (n c d : ℕ) → length p ≤ k → IsDirectory w n
      → path_at (directory_entries w) p ≡ Some (n, c) → path_at (directory_entries w) q ≡ Some (n, d) → p ≡ q
  one_path_of zero p q n c d le is hp hq = ⊎_elim
      (λ e. e ∙ sym (root_path q d (hq ∙ ap (λ m. Some (m, d))
      (one_number n c 1 0 (sym hp ∙ ap (path_at (directory_entries w)) e)))))
      (λ l. absurd (omega (arith, le, ap length l.2, length-append l.0 (l.1 ∷ []))))
      (last_name p)
  one_path_of (suc k) p q n c d le is hp hq = ⊎_elim
      (λ e. e ∙ sym (root_path q d (hq ∙ ap (λ m. Some (m, d))
      (one_number n c 1 0 (sym hp ∙ ap (path_at (directory_entries w)) e)))))
      (λ l. ⊎_elim
      (λ e. root_path p c (hp ∙ ap (λ m. Some (m, c))
      (one_number n d 1 0 (sym hq ∙ ap (path_at (directory_entries w)) e))) ∙ sym e)
      (λ m.
      let s = last_step (directory_entries w) (1, 0) l.0 l.1 n c
      (sym (ap (path_at (directory_entries w)) l.2) ∙ hp) in
      let t = last_step (directory_entries w) (1, 0) m.0 m.1 n d
      (sym (ap (path_at (directory_entries w)) m.2) ∙ hq) in
      let same = one_entry n s.0 t.0 c d l.1 m.1 is s.3 t.3 in
      let shorter : length l.0 ≤ k = omega (arith, le, ap length l.2, length-append l.0 (l.1 ∷ [])) in
      let fronts = one_path_of k l.0 m.0 s.0 s.1 t.1 shorter (tree.tree.lists s.0 l.1 n c s.3) s.2
      (t.2 ∙ ap (λ o. Some (o, t.1)) (sym same.0)) in
      joined p q l.0 m.0 l.1 m.1 l.2 m.2 fronts same.1)
      (last_name q))
      (last_name p)

-- in a tree a directory has one path
pub one_path : (w : Files) → IsFileTree w → HasOnePathEach (IsDirectory w) (directory_entries w)
one_path w tree p q n c d is hp hq = one_path_of w tree (length p) p q n c d (omega arith) is hp hq
