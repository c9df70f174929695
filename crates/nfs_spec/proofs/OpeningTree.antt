-- The files that a server begins with are a tree.
-- Serves: opening_files_are_a_tree (nfs_spec).
use Rattle.std.proofs.Common.{◌≡◌, ◌⊎◌, inl, inr, ⊎_elim, ℕ, ◌<◌, ◌≤◌, Bool, true, false, cond, List, [], ◌∷◌}
use Rattle.std.proofs.Common.{Option, Some, None, IsSome, is_some, option_map, option_and_then, refl, sym, ap}
use Rattle.std.proofs.Common.{subst, ◌∙◌, arith, nat_eq, length}
use Rattle.std.specs.Prelude.{IsTrue}
use Rattle.std.specs.List.{IsDistinct}
use Rattle.std.specs.Ordering.{nat_cmp, eq_by_cmp}
use Rattle.std.specs.Cmp.{nat_cmp_total}
use Rattle.std.specs.Cmp.Lexicographic.{pointwise, same_text}
use Rattle.std.specs.FinMap as finite
use Rattle.std.proofs.lemmas.Bool.{cond-true, cond-false}
use Rattle.fs_spec.specs.Listing.{entry_at}
use Rattle.fs_spec.specs.Names.{is_name}
use Rattle.fs_spec.specs.Files.{File, file_at, listing_in, is_directory, IsDirectory, directory_entries}
use Rattle.fs_spec.specs.Files.{names_of}
use Rattle.fs_spec.specs.Trees.{IsFile, IsFileTree}
use Rattle.fs_spec.proofs.Walks.{some_same, none_some, one_number}
use Rattle.fs_spec.proofs.Counts.{same_number}
use Rattle.nfs_spec.specs.Opening.{hello, opening_root, opening_hello, opening_files}
use Rattle.nfs_spec.proofs.Present.{none_there}
use Rattle.nfs_spec.proofs.OpeningFiles.{root_there, hello_there, opening_names}

wrong_number : ◌≡◌ {A = ℕ} 2 1 → ⊥
wrong_number h = absurd (omega arith)

root_fits : IsFile opening_root
unfolding IsDistinct
root_fits = record {
  mode = omega arith;
  atime = omega arith;
  mtime = omega arith;
  ctime = omega arith;
  body =
      ((omega arith, omega arith), (tt, tt));
}

module _ (fsid : ℕ) where
  -- the files that are there
  file_of_number : (n : ℕ)
      → ((n ≡ 1) × (file_at (opening_files fsid) n ≡ Some opening_root))
      ⊎ (((n ≡ 2) × (file_at (opening_files fsid) n ≡ Some opening_hello))
      ⊎ (file_at (opening_files fsid) n ≡ None))
  file_of_number n =
      by (eq_by_cmp nat_cmp n 1) (eq_by_cmp nat_cmp n 2) refl refl
      (finite.get-from_entries nat_cmp_total ((1, opening_root) ∷ (2, opening_hello) ∷ []) n)
    where
      by : (a b : Bool) → eq_by_cmp nat_cmp n 1 ≡ a → eq_by_cmp nat_cmp n 2 ≡ b
          → file_at (opening_files fsid) n
          ≡ cond (eq_by_cmp nat_cmp n 1) (Some opening_root)
          (cond (eq_by_cmp nat_cmp n 2) (Some opening_hello) None)
          → ((n ≡ 1) × (file_at (opening_files fsid) n ≡ Some opening_root))
          ⊎ (((n ≡ 2) × (file_at (opening_files fsid) n ≡ Some opening_hello))
          ⊎ (file_at (opening_files fsid) n ≡ None))
      by true b e g k = inl (same_number n 1 e, k ∙ cond-true _ _ _ e)
      by false true e g k = inr (inl (same_number n 2 g, k ∙ cond-false _ _ _ e ∙ cond-true _ _ _ g))
      by false false e g k = inr (inr (k ∙ cond-false _ _ _ e ∙ cond-false _ _ _ g))

  only_these : (n : ℕ) → IsSome (file_at (opening_files fsid) n) → (n ≡ 1) ⊎ (n ≡ 2)
  only_these n h =
      ⊎_elim (λ a. inl a.0) (λ b. ⊎_elim (λ a. inr a.0) (λ none. absurd (none_there _ none h)) b)
      (file_of_number n)

  -- only the root of the opening files is a directory
  pub one_directory : (n : ℕ) → IsDirectory (opening_files fsid) n → n ≡ 1
  one_directory n h = ⊎_elim
      (λ a. a.0)
      (λ b. ⊎_elim
      (λ a. absurd (some_false (sym (ap (option_map (λ f. is_directory f.body)) a.1) ∙ h)))
      (λ none. absurd (none_some (sym (ap (option_map (λ f. is_directory f.body)) none) ∙ h)))
      b)
      (file_of_number n)
    where
      some_false : ◌≡◌ {A = Option Bool} (Some false) (Some true) → ⊥
      some_false h = cc

  one_entry : (n : ℕ) (y : List ℕ) (k c : ℕ) → directory_entries (opening_files fsid) n y ≡ Some (k, c)
      → (n ≡ 1) × (y ≡ hello) × (k ≡ 2)
  one_entry n y k c h = ⊎_elim
      (λ a. in_root a.0 (pointwise nat_eq y hello) refl
      (sym (ap (option_and_then (λ f. entry_at (listing_in f.body) y)) a.1) ∙ h))
      (λ b. ⊎_elim
      (λ a. absurd (none_some (sym (ap (option_and_then (λ f. entry_at (listing_in f.body) y)) a.1) ∙ h)))
      (λ none. absurd (none_some (sym (ap (option_and_then (λ f. entry_at (listing_in f.body) y)) none) ∙ h)))
      b)
      (file_of_number n)
    where
      in_root : n ≡ 1 → (b : Bool) → pointwise nat_eq y hello ≡ b
          → cond {A = Option (ℕ × ℕ)} b (Some (2, 3)) None ≡ Some (k, c) → (n ≡ 1) × (y ≡ hello) × (k ≡ 2)
      in_root one true e g = (one, same_text y hello (sym e), sym (one_number 2 3 k c g))
      in_root one false e g = absurd (none_some g)

  root_is : IsDirectory (opening_files fsid) 1
  root_is = ap (option_map (λ f. is_directory f.body)) (root_there fsid)

  names_fit : (name : List ℕ) → name ≡ hello → IsTrue (is_name name) × (length name ≤ 255)
  names_fit name e = subst (λ y. IsTrue (is_name y) × (length y ≤ 255)) (sym e) (refl, omega arith)

  files_fit : (n : ℕ) (f : File) → file_at (opening_files fsid) n ≡ Some f → IsFile f
  files_fit n f h = ⊎_elim
      (λ a. subst IsFile (some_same (sym a.1 ∙ h)) root_fits)
      (λ b. ⊎_elim
      (λ a. subst IsFile (some_same (sym a.1 ∙ h))
      (record {
        mode = omega arith;
        atime = omega arith;
        mtime = omega arith;
        ctime = omega arith;
        body =
            omega arith;
      }))
      (λ none. absurd (none_some (sym none ∙ h)))
      b)
      (file_of_number n)

  -- the opening files are a tree
  pub opening_is_tree : IsFileTree (opening_files fsid)
  opening_is_tree = record {
    tree = record {
      root = root_is;
      there = λ n is. subst (λ m. IsSome (file_at (opening_files fsid) m)) (sym (one_directory n is))
          (ap is_some (root_there fsid));
      reached = λ n is. ([], 0, ap (λ m. Some (m, 0)) (sym (one_directory n is)));
      lists = λ n y k c h. subst (IsDirectory (opening_files fsid)) (sym (one_entry n y k c h).0) root_is;
      named = λ n y k c h. subst (λ m. IsSome (file_at (opening_files fsid) m)) (sym (one_entry n y k c h).2)
          (ap is_some (hello_there fsid));
      up = λ n y k c h is. absurd (wrong_number (sym (one_entry n y k c h).2 ∙ one_directory k is));
    };
    root = opening_names fsid 1;
    directories = λ n not is. absurd (not (one_directory n is));
    named = λ n not is. ⊎_elim (λ one. absurd (not one))
        (λ two. subst (λ m. 0 < names_of (opening_files fsid) m) (sym two)
        (omega (arith, opening_names fsid 2))) (only_these n is);
    numbers = λ n is. ⊎_elim (λ one. (omega arith, omega arith)) (λ two. (omega arith, omega arith))
        (only_these n is);
    names = λ n name is. by_entry n name (directory_entries (opening_files fsid) n name) refl is;
    files = files_fit;
  }
    where
      by_entry : (n : ℕ) (name : List ℕ) (o : Option (ℕ × ℕ))
          → directory_entries (opening_files fsid) n name ≡ o
          → IsSome (directory_entries (opening_files fsid) n name)
          → IsTrue (is_name name) × (length name ≤ 255)
      by_entry n name None e is = absurd (none_there _ e is)
      by_entry n name (Some p) e is = names_fit name (one_entry n name p.0 p.1 e).1
