-- Inodes with their numbers, and the files that they are.
-- Serves: `add_inodes`, `have_names`, `is_tree`, `set_links`.
use Rattle.std.proofs.Common.{◌≡◌, ℕ, ◌+◌, ◌<◌, List, [], ◌∷◌, length, get_or, Option, Some, None, true}
use Rattle.std.proofs.Common.{false, option_map, ⊎_elim, refl, sym, ap, subst, ◌∙◌, arith}
use Rattle.std.specs.Prelude.{slice_get}
use Rattle.std.proofs.lemmas.Bool.{cases_lt}
use Rattle.std.proofs.lemmas.List.{length-map}
use Rattle.std.proofs.lemmas.Option.{slice_get-map, slice_get-get_or, slice_get_within, slice_get_cases}
use Rattle.std.proofs.lemmas.Bool.{false≢true}
use Rattle.nfs_laws.specs.fs_spec.Files.{File, is_directory}
use Rattle.nfs_laws.proofs.fs_spec.Walks.{none_some, some_same}
use Rattle.inodes.specs.Inodes.{file_in}
use Rattle.inodes.specs.declared.inode.Inode.{Inode}
use Rattle.tree_rules.specs.FileRules.Rules.{IsAt, may_have, numbers_of}
use Rattle.tree_rules.specs.Listed.{files_in}

-- there are as many
pub length_files : (inodes : List (ℕ × Inode)) → length (files_in inodes) ≡ length inodes
length_files inodes = length-map {B = ℕ × File} inodes (λ (e : ℕ × Inode). (e.0, file_in e.1))

-- there are as many numbers as places
pub length_numbers : {X : Type 0} (es : List (ℕ × X)) → length (numbers_of es) ≡ length es
length_numbers {X} es = length-map {B = ℕ} es (λ (e : ℕ × X). e.0)

-- with the same numbers
pub same_numbers : (inodes : List (ℕ × Inode)) → numbers_of inodes ≡ numbers_of (files_in inodes)
same_numbers [] = refl
same_numbers (e ∷ inodes) = ap (λ ns. e.0 ∷ ns) (same_numbers inodes)

module _ (inodes : List (ℕ × Inode)) (k : ℕ) where
  -- the file of an inode that stands at a place
  pub file_of_inode : (e : ℕ × Inode) → slice_get inodes k ≡ Some e
      → IsAt (files_in inodes) k e.0 (file_in e.1)
  file_of_inode e at =
      slice_get-map (λ (e : ℕ × Inode). (e.0, file_in e.1)) inodes k
      ∙ ap (option_map (λ (e : ℕ × Inode). (e.0, file_in e.1))) at

  -- the file at a place is the one of the inode there
  pub at_inode : (d : ℕ × Inode) → k < length inodes
      → IsAt (files_in inodes) k (get_or inodes k d).0 (file_in (get_or inodes k d).1)
  at_inode d h = file_of_inode (get_or inodes k d) (slice_get-get_or inodes k d h)

  -- a place has one
  pub an_inode : k < length inodes → (e : ℕ × Inode) × IsAt (files_in inodes) k e.0 (file_in e.1)
  an_inode h = ⊎_elim
      (λ found. (found.0, file_of_inode found.0 found.2))
      (λ past. absurd (omega (arith, past.0)))
      (slice_get_cases inodes k).1

  -- and the inode whose file does
  pub inode_of_place : (n : ℕ) (f : File) → IsAt (files_in inodes) k n f
      → (e : ℕ × Inode) × (k < length inodes) × (slice_get inodes k ≡ Some e) × (e.0 ≡ n) × (file_in e.1 ≡ f)
  inode_of_place n f at = by (slice_get inodes k) refl
    where
      by : (o : Option (ℕ × Inode)) → slice_get inodes k ≡ o
          → (e : ℕ × Inode) × (k < length inodes) × (slice_get inodes k ≡ Some e) × (e.0 ≡ n)
          × (file_in e.1 ≡ f)
      by None is =
          absurd (none_some (sym (slice_get-map (λ (e : ℕ × Inode). (e.0, file_in e.1)) inodes k
          ∙ ap (option_map (λ (e : ℕ × Inode). (e.0, file_in e.1))) is) ∙ at))
      by (Some e) is =
          let same : ◌≡◌ {A = ℕ × File} (e.0, file_in e.1) (n, f) =
          some_same (sym (file_of_inode e is) ∙ at) in (
            e,
            slice_get_within inodes k e is,
            is,
            ap (λ (x : ℕ × File). x.0) same,
            ap (λ (x : ℕ × File). x.1) same,
          )

-- each place up to one has names as it may
abbrev pub HaveNamesTo : ℕ → List (ℕ × Inode) → List ℕ → Type 0
HaveNamesTo count inodes names =
    (k n : ℕ) (f : File) → k < count → IsAt (files_in inodes) k n f
    → may_have k (is_directory f.body) (get_or names k 0) ≡ true

-- one place more has names as it may
pub have_more : (i : ℕ) (inodes : List (ℕ × Inode)) (names : List ℕ) (d : ℕ × Inode) → i < length inodes
    → may_have i (is_directory (file_in (get_or inodes i d).1).body) (get_or names i 0) ≡ true
    → HaveNamesTo i inodes names → HaveNamesTo (i + 1) inodes names
have_more i inodes names d inside here old k n f h at = ⊎_elim
    (λ lt. old k n f lt at)
    (λ ge.
    let same : i ≡ k = omega arith in
    let file : file_in (get_or inodes i d).1 ≡ f =
    ap (λ (x : ℕ × File). x.1) (some_same (sym (at_inode inodes i d inside)
    ∙ ap (slice_get (files_in inodes)) same ∙ at)) in
    subst (λ j. may_have j (is_directory f.body) (get_or names j 0) ≡ true) same
    (subst (λ (g : File). may_have i (is_directory g.body) (get_or names i 0) ≡ true) file here))
    (cases_lt k i)
