-- Files are told by their paths, and by what each file holds beside its names.
-- Serves: files_are_told_by_paths (fs_spec).
use Rattle.std.proofs.Common.{◌≡◌, ℕ, ◌+◌, ◌≤◌, Bool, true, false, cond, List, [], ◌∷◌, ◌++◌, Option, Some}
use Rattle.std.proofs.Common.{None, nat_eq, option_map, option_and_then, refl, sym, ap, ◌∙◌, arith}
use Rattle.std.specs.List.{IsDistinct}
use Rattle.std.specs.Map.{lookup, keys_of}
use Rattle.std.specs.Cmp.{nat_cmp_total}
use Rattle.std.specs.Cmp.Lexicographic.{pointwise, same_text, nat_list_eq_equiv}
use Rattle.std.specs.FinMap as finite
use Rattle.std.proofs.lemmas.Bool.{cond-true, cond-false}
use Rattle.fs_spec.specs.Listing.{entry_at, IsRising, HasDistinctNames}
use Rattle.fs_spec.specs.Paths.{path_at}
use Rattle.fs_spec.specs.Files.{Body, Regular, Symlink, Directory, File, Files, file_at, listing_in}
use Rattle.fs_spec.specs.Files.{is_directory, IsDirectory, directory_entries, body_without_entries}
use Rattle.fs_spec.specs.Files.{without_entries}
use Rattle.fs_spec.specs.Trees.{IsBody, IsFileTree}
use Rattle.fs_spec.proofs.Walks.{none_some, some_same, step_last}
use Rattle.fs_spec.proofs.Reached.{not_before}

-- ---- two lists with rising cookies and the same look-ups are one

cookie_above : (t : List ℕ → Bool) (low : ℕ) (es : List (List ℕ × (ℕ × ℕ))) (high : ℕ) → IsRising low es high
    → (p : ℕ × ℕ) → lookup t es ≡ Some p → low ≤ p.1
cookie_above t low [] high rising p h = absurd (none_some h)
cookie_above t low (e ∷ es) high rising p h =
    elim (t e.0) as (λ b. cond b (Some e.1) (lookup t es) ≡ Some p → low ≤ p.1) [
      | true ↦ λ is. let same : e.1.1 ≡ p.1 = ap (λ (q : ℕ × ℕ). q.1) (some_same is) in
          omega (arith, rising.0, same)
      | false ↦ λ is.
          let rest = cookie_above t (e.1.1 + 1) es high rising.1 p is in
          omega (arith, rising.0, rest)
    ] h

module _ {X : Type 0} where
  found_first : (e : List ℕ × X) (es : List (List ℕ × X)) → lookup (pointwise nat_eq e.0) (e ∷ es) ≡ Some e.1
  found_first e es = cond-true _ _ _ (nat_list_eq_equiv.refl e.0)

  -- what is after one entry
  behind : (e : List ℕ × X) (es : List (List ℕ × X)) (y : List ℕ)
      → IsDistinct (pointwise nat_eq) (keys_of (e ∷ es))
      → (pointwise nat_eq y e.0 ≡ true → lookup (pointwise nat_eq y) es ≡ None)
  unfolding IsDistinct
  behind e es y distinct is = not_before nat_list_eq_equiv e.0 y is es distinct.0

  rest_distinct : (e : List ℕ × X) (es : List (List ℕ × X)) → IsDistinct (pointwise nat_eq) (keys_of (e ∷ es))
      → IsDistinct (pointwise nat_eq) (keys_of es)
  unfolding IsDistinct
  rest_distinct e es distinct = distinct.1

same_first : (e f : List ℕ × (ℕ × ℕ)) (es fs : List (List ℕ × (ℕ × ℕ))) (high high' : ℕ)
    → IsRising (e.1.1 + 1) es high → IsRising (f.1.1 + 1) fs high'
    → ((y : List ℕ) → lookup (pointwise nat_eq y) (e ∷ es) ≡ lookup (pointwise nat_eq y) (f ∷ fs)) → e ≡ f
same_first e f es fs high high' up up' same =
    by (pointwise nat_eq e.0 f.0) refl (sym (same e.0) ∙ found_first e es)
  where
    pair : (a b : List ℕ) (p q : ℕ × ℕ) → a ≡ b → p ≡ q → ◌≡◌ {A = List ℕ × (ℕ × ℕ)} (a, p) (b, q)
    pair a b p q h k = λ i. (h i, k i)

    by : (b : Bool) → pointwise nat_eq e.0 f.0 ≡ b → lookup (pointwise nat_eq e.0) (f ∷ fs) ≡ Some e.1 → e ≡ f
    by true is h =
        pair e.0 f.0 e.1 f.1 (same_text e.0 f.0 (sym is)) (sym (some_same (sym (cond-true _ _ _ is) ∙ h)))
    by false is h =
        let later = cookie_above (pointwise nat_eq e.0) (f.1.1 + 1) fs high' up' e.1
        (sym (cond-false _ _ _ is) ∙ h) in
        let sooner = cookie_above (pointwise nat_eq f.0) (e.1.1 + 1) es high up f.1
        (sym (cond-false _ _ _ (nat_list_eq_equiv.symm f.0 e.0 ∙ is)) ∙ same f.0 ∙ found_first f fs) in
        absurd (omega (arith, later, sooner))

same_entries : (low low' : ℕ) (es fs : List (List ℕ × (ℕ × ℕ))) (high high' : ℕ) → IsRising low es high
    → IsRising low' fs high' → HasDistinctNames es → HasDistinctNames fs
    → ((y : List ℕ) → lookup (pointwise nat_eq y) es ≡ lookup (pointwise nat_eq y) fs) → es ≡ fs
same_entries low low' [] [] high high' up up' d d' same = refl
same_entries low low' [] (f ∷ fs) high high' up up' d d' same =
    absurd (none_some (same f.0 ∙ found_first f fs))
same_entries low low' (e ∷ es) [] high high' up up' d d' same =
    absurd (none_some (sym (same e.0) ∙ found_first e es))
same_entries low low' (e ∷ es) (f ∷ fs) high high' up up' d d' same =
    let first = same_first e f es fs high high' up.1 up'.1 same in
    let rest = same_entries (e.1.1 + 1) (f.1.1 + 1) es fs high high' up.1 up'.1 (rest_distinct e es d)
    (rest_distinct f fs d') (λ y. tails e f es fs y first (same y) (behind e es y d)
    (behind f fs y d')) in
    λ i. first i ∷ rest i
  where
    tails : (e f : List ℕ × (ℕ × ℕ)) (es fs : List (List ℕ × (ℕ × ℕ))) (y : List ℕ) → e ≡ f
        → lookup (pointwise nat_eq y) (e ∷ es) ≡ lookup (pointwise nat_eq y) (f ∷ fs)
        → (pointwise nat_eq y e.0 ≡ true → lookup (pointwise nat_eq y) es ≡ None)
        → (pointwise nat_eq y f.0 ≡ true → lookup (pointwise nat_eq y) fs ≡ None)
        → lookup (pointwise nat_eq y) es ≡ lookup (pointwise nat_eq y) fs
    tails e f es fs y first h none none' = by (pointwise nat_eq y e.0) refl
      where
        key : pointwise nat_eq y f.0 ≡ pointwise nat_eq y e.0
        key = ap (λ (g : List ℕ × (ℕ × ℕ)). pointwise nat_eq y g.0) (sym first)

        by : (b : Bool) → pointwise nat_eq y e.0 ≡ b
            → lookup (pointwise nat_eq y) es ≡ lookup (pointwise nat_eq y) fs
        by true is = none is ∙ sym (none' (key ∙ is))
        by false is = sym (cond-false _ _ _ is) ∙ h ∙ cond-false _ _ _ (key ∙ is)

-- ---- bodies and files

same_body : (b c : Body) → IsBody b → IsBody c → body_without_entries b ≡ body_without_entries c
    → ((y : List ℕ) → entry_at (listing_in b) y ≡ entry_at (listing_in c) y) → b ≡ c
same_body (Regular x) (Regular y) fits fits' same looks = same
same_body (Regular x) (Symlink y) fits fits' same looks = same
same_body (Regular x) (Directory m) fits fits' same looks = absurd (cc)
same_body (Symlink x) (Regular y) fits fits' same looks = same
same_body (Symlink x) (Symlink y) fits fits' same looks = same
same_body (Symlink x) (Directory m) fits fits' same looks = absurd (cc)
same_body (Directory l) (Regular y) fits fits' same looks = absurd (cc)
same_body (Directory l) (Symlink y) fits fits' same looks = absurd (cc)
same_body (Directory l) (Directory m) fits fits' same looks =
    let entries = same_entries 3 3 l.entries m.entries l.next m.next fits.0 fits'.0 fits.1 fits'.1 looks in
    let next : l.next ≡ m.next = ap (λ b. (listing_in b).next) same in
    λ i. Directory (record { next = next i; entries = entries i })

same_kind : (b : Body) → is_directory (body_without_entries b) ≡ is_directory b
same_kind (Regular bytes) = refl
same_kind (Symlink target) = refl
same_kind (Directory l) = refl

same_file : (f g : File) → without_entries f ≡ without_entries g → f.body ≡ g.body → f ≡ g
same_file f g same body = λ i. record {
  mode = (same i).mode;
  uid = (same i).uid;
  gid = (same i).gid;
  atime = (same i).atime;
  mtime = (same i).mtime;
  ctime = (same i).ctime;
  body = body i;
}

module _ (v w : Files) (tree : IsFileTree v) (tree' : IsFileTree w)
    (paths : (p : List (List ℕ)) → path_at (directory_entries v) p ≡ path_at (directory_entries w) p)
    (files : (n : ℕ) → option_map without_entries (file_at v n)
    ≡ option_map without_entries (file_at w n)) where
  kind_of : (o : Option File)
      → option_map (λ f. is_directory f.body) (option_map without_entries o)
      ≡ option_map (λ f. is_directory f.body) o
  kind_of None = refl
  kind_of (Some f) = ap (λ b. Some b) (same_kind f.body)

  kinds : (n : ℕ) → option_map (λ f. is_directory f.body) (file_at v n)
      ≡ option_map (λ f. is_directory f.body) (file_at w n)
  kinds n = sym (kind_of (file_at v n)) ∙ ap (option_map (λ f. is_directory f.body)) (files n)
      ∙ kind_of (file_at w n)

  in_directory : (n : ℕ) (y : List ℕ) → IsDirectory v n → directory_entries v n y ≡ directory_entries w n y
  in_directory n y is =
      let r = tree.tree.reached n is in
      sym (step_last (directory_entries v) r.0 y n r.1 r.2) ∙ paths (r.0 ++ y ∷ [])
      ∙ step_last (directory_entries w) r.0 y n r.1 (sym (paths r.0) ∙ r.2)

  same_directory_entries : (n : ℕ) (y : List ℕ) → directory_entries v n y ≡ directory_entries w n y
  same_directory_entries n y = by (directory_entries v n y) (directory_entries w n y) refl refl
    where
      by : (o q : Option (ℕ × ℕ)) → directory_entries v n y ≡ o → directory_entries w n y ≡ q
          → directory_entries v n y ≡ directory_entries w n y
      by (Some e) q h k = in_directory n y (tree.tree.lists n y e.0 e.1 h)
      by None (Some e) h k = in_directory n y (kinds n ∙ tree'.tree.lists n y e.0 e.1 k)
      by None None h k = h ∙ sym k

  same_at : (n : ℕ) → file_at v n ≡ file_at w n
  same_at n = by (file_at v n) (file_at w n) refl refl
    where
      by : (o q : Option File) → file_at v n ≡ o → file_at w n ≡ q → file_at v n ≡ file_at w n
      by None None h k = h ∙ sym k
      by None (Some g) h k =
          absurd (none_some (sym (ap (option_map without_entries) h) ∙ files n
          ∙ ap (option_map without_entries) k))
      by (Some f) None h k =
          absurd (none_some (sym (ap (option_map without_entries) k) ∙ sym (files n)
          ∙ ap (option_map without_entries) h))
      by (Some f) (Some g) h k =
          let same = some_same (sym (ap (option_map without_entries) h) ∙ files n
          ∙ ap (option_map without_entries) k) in
          let looks : (y : List ℕ) → entry_at (listing_in f.body) y ≡ entry_at (listing_in g.body) y =
          λ y. sym (ap (option_and_then (λ f. entry_at (listing_in f.body) y)) h) ∙ same_directory_entries n y
          ∙ ap (option_and_then (λ f. entry_at (listing_in f.body) y)) k in
          h ∙ ap (λ x. Some x) (same_file f g same
          (same_body f.body g.body (tree.files n f h).body (tree'.files n g k).body
          (ap (λ (x : File). x.body) same) looks)) ∙ sym k

  -- files with the same paths, which hold the same beside their names, are equal
  pub told : v.fsid ≡ w.fsid → v.next ≡ w.next → v ≡ w
  told fsid next =
      let all : v.files
      ≡ w.files = finite.same_map nat_cmp_total finite.nat_cmp-IsAntisymmetric v.files w.files same_at in
      λ i. record { fsid = fsid i; next = next i; files = all i }
