-- What it takes that files are a tree: the directory above one is told by the counts.
-- Serves: Adding, Taking, Moving and SameShape here, by them trees_stay_trees (nfs_laws);
-- tree_rules::file_rules, state_spec.
use Rattle.std.proofs.Common.{◌≡◌, ◌≢◌, ℕ, ◌+◌, ◌<◌, ◌≤◌, Bool, true, false, cond, List, [], ◌∷◌, sum_by}
use Rattle.std.proofs.Common.{Some, IsSome, is_some, option_map, refl, sym, ap, ◌∙◌, arith, eqb, ltb, ne_eqb}
use Rattle.std.specs.Prelude.{find, nat_lt, IsTrue, length}
use Rattle.std.specs.Option.{option_map_or}
use Rattle.std.specs.Map.{lookup}
use Rattle.std.specs.Ordering.{nat_cmp, eq_by_cmp}
use Rattle.std.specs.FinMap as finite
use Rattle.std.proofs.lemmas.Bool.{cond-false, ltb-true, ltb-false}
use Rattle.std.proofs.lemmas.List.Sums.{sum_by-cons}
use Rattle.fs_spec.specs.Listing.{entry_at}
use Rattle.fs_spec.specs.Names.{is_name}
use Rattle.fs_spec.specs.Paths.{path_at}
use Rattle.fs_spec.specs.Files.{Body, Regular, Symlink, Directory, Files, file_at, listing_in, is_directory}
use Rattle.fs_spec.specs.Files.{directory_entries, names_in, names_of, parent_of}
use Rattle.fs_spec.specs.Trees.{IsFileTree}
use Rattle.fs_spec.proofs.Walks.{none_some, some_same}
use Rattle.fs_spec.proofs.Counts.{same_number, count_of_one, listed_in, file_in, own_name, has_name}
use Rattle.fs_spec.proofs.Counts.{all_names}
use Rattle.fs_spec.proofs.OfChanges.Shapes.{kind, AllFiles, is_some-kind}

-- the one that counts is the first that counts
first_counted : {X : Type 0} (g : X → ℕ) (es : List (ℕ × X)) (d : ℕ) (f : X)
    → lookup (eq_by_cmp nat_cmp d) es ≡ Some f → 0 < g f → sum_by (λ e. g e.1) es ≤ 1
    → option_map_or (λ e. e.0) (find (λ e. nat_lt 0 (g e.1)) es) 1 ≡ d
first_counted g [] d f found some most = absurd (none_some found)
first_counted {X} g (e ∷ es) d f found some most =
    let parts = sum_by-cons (λ (e : ℕ × X). g e.1) e es in
    by g e es d f some most parts (λ h le. first_counted g es d f h some le) (ltb 0 (g e.1))
    (eq_by_cmp nat_cmp d e.0) refl refl found
  where
    by : {X : Type 0} (g : X → ℕ) (e : ℕ × X) (es : List (ℕ × X)) (d : ℕ) (f : X) → 0 < g f
        → sum_by (λ e. g e.1) (e ∷ es) ≤ 1
        → sum_by (λ (e : ℕ × X). g e.1) (e ∷ es) ≡ g e.1 + sum_by (λ (e : ℕ × X). g e.1) es
        → (lookup (eq_by_cmp nat_cmp d) es ≡ Some f → sum_by (λ e. g e.1) es ≤ 1
        → option_map_or (λ e. e.0) (find (λ e. nat_lt 0 (g e.1)) es) 1 ≡ d)
        → (a b : Bool) → ltb 0 (g e.1) ≡ a → eq_by_cmp nat_cmp d e.0 ≡ b
        → cond b (Some e.1) (lookup (eq_by_cmp nat_cmp d) es) ≡ Some f
        → option_map_or (λ e. e.0) (cond (ltb 0 (g e.1)) (Some e) (find (λ e. nat_lt 0 (g e.1)) es)) 1 ≡ d
    by g e es d f some most parts next true true s t h =
        ap (λ b. option_map_or (λ e. e.0) (cond b (Some e) (find (λ e. nat_lt 0 (g e.1)) es)) 1) s
        ∙ sym (same_number d e.0 t)
    by g e es d f some most parts next true false s t h =
        let more = count_of_one g (eq_by_cmp nat_cmp d) es f h in
        let own = ltb-true 0 (g e.1) s in
        absurd (omega (arith, parts, more, own, some, most))
    by g e es d f some most parts next false true s t h =
        let same = ap g (some_same h) in
        let own = ltb-false 0 (g e.1) s in
        absurd (omega (arith, same, own, some))
    by g e es d f some most parts next false false s t h =
        ap (λ b. option_map_or (λ e. e.0) (cond b (Some e) (find (λ e. nat_lt 0 (g e.1)) es)) 1) s
        ∙ next h (omega (arith, parts, most))

-- the directory that names a directory is the one above it
above_it : (w : Files) → names_of w 1 ≡ 0 → ((n : ℕ) → n ≢ 1 → kind w n ≡ Some true → names_of w n ≡ 1)
    → (n : ℕ) (y : List ℕ) (k c : ℕ) → directory_entries w n y ≡ Some (k, c) → kind w k ≡ Some true
    → parent_of w k ≡ n
above_it w root directories n y k c h is =
    let own = has_name w k n c y h in
    let not_root : k ≢ 1 = λ e. let same = ap (names_of w) e in absurd (omega (arith, own, same, root)) in
    let f = listed_in w n y (k, c) h in
    cond-false (eqb k 1) 1 _ (ne_eqb k 1 not_root)
    ∙ first_counted (names_in k) (finite.entries w.files) n f.0 (file_in w n f.0 f.1)
    (own_name w k f.0 y c f.2) (omega (arith, directories k not_root is, all_names w k))

-- what has no entry is no directory
lists_of : (w : Files) (n : ℕ) (y : List ℕ) (e : ℕ × ℕ) → directory_entries w n y ≡ Some e
    → kind w n ≡ Some true
lists_of w n y e h = let f = listed_in w n y e h in
    ap (option_map (λ f. is_directory f.body)) f.1 ∙ ap (λ b. Some b) (by f.0.body f.2)
  where
    by : (b : Body) → entry_at (listing_in b) y ≡ Some e → is_directory b ≡ true
    by (Regular bytes) h = absurd (none_some h)
    by (Symlink target) h = absurd (none_some h)
    by (Directory l) h = refl

there_of : (w : Files) (n : ℕ) (b : Bool) → kind w n ≡ Some b → IsSome (file_at w n)
there_of w n b h = is_some-kind w n ∙ ap is_some h

-- the facts of which the rest follows
pub record IsWellNamed (w : Files) : Type 0 where
  -- number 1 is a directory
  pub root_is : kind w 1 ≡ Some true
  -- each directory has a path
  pub reached : (n : ℕ) → kind w n ≡ Some true
      → (p : List (List ℕ)) × (c : ℕ) × (path_at (directory_entries w) p ≡ Some (n, c))
  -- what a name leads to is there
  pub there : (n : ℕ) (y : List ℕ) (k c : ℕ) → directory_entries w n y ≡ Some (k, c) → IsSome (kind w k)
  -- the root has no name
  pub root : names_of w 1 ≡ 0
  -- each other directory has one name
  pub directories : (n : ℕ) → n ≢ 1 → kind w n ≡ Some true → names_of w n ≡ 1
  -- each other file has at least one
  pub named : (n : ℕ) → n ≢ 1 → IsSome (kind w n) → 0 < names_of w n
  -- the numbers of files are above 0 and below the next that is given
  pub numbers : (n : ℕ) → IsSome (kind w n) → (1 ≤ n) × (n < w.next)
  -- each name is one that an entry may have
  pub names : (n : ℕ) (name : List ℕ) → IsSome (directory_entries w n name)
      → IsTrue (is_name name) × (length name ≤ 255)
  -- each file is as a file may be
  pub files : AllFiles w

-- files whose names are counted so are a tree
pub built : (w : Files) → IsWellNamed w → IsFileTree w
built w h = record {
  tree = record {
    root = h.root_is;
    there = λ n is. there_of w n true is;
    reached = h.reached;
    lists = λ n y k c e. lists_of w n y (k, c) e;
    named = λ n y k c e. is_some-kind w k ∙ h.there n y k c e;
    up = above_it w h.root h.directories;
  };
  root = h.root;
  directories = h.directories;
  named = λ n not is. h.named n not (sym (is_some-kind w n) ∙ is);
  numbers = λ n is. h.numbers n (sym (is_some-kind w n) ∙ is);
  names = h.names;
  files = h.files;
}

-- the other way round
pub facts : (w : Files) → IsFileTree w → IsWellNamed w
facts w t = record {
  root_is = t.tree.root;
  reached = t.tree.reached;
  there = λ n y k c e. sym (is_some-kind w k) ∙ t.tree.named n y k c e;
  root = t.root;
  directories = t.directories;
  named = λ n not is. t.named n not (is_some-kind w n ∙ is);
  numbers = λ n is. t.numbers n (is_some-kind w n ∙ is);
  names = t.names;
  files = t.files;
}
