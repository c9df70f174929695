-- What is kept beside each file of a tree, one file after the other.
-- Serves: `is_directory_at`, `count_subdirectories`, `links_of`, `link_all`, `set_links`.
use Rattle.std.proofs.Common.{◌≡◌, ◌≢◌, ⊎_elim, ℕ, zero, suc, ◌+◌, ◌<◌, ◌≤◌, true, false, List, [], ◌∷◌}
use Rattle.std.proofs.Common.{length, get_or, set, Option, Some, None, option_map, refl, sym, ap, subst, ◌∙◌}
use Rattle.std.proofs.Common.{arith}
use Rattle.std.specs.Prelude.{slice_get}
use Rattle.std.specs.Option.{option_map_or}
use Rattle.std.proofs.lemmas.Bool.{cases_lt}
use Rattle.std.proofs.lemmas.List.{map-set}
use Rattle.std.proofs.lemmas.Map.Entries.{place_from_lookup}
use Rattle.std.proofs.lemmas.Option.{slice_get_within}
use Rattle.std.specs.Ordering.{nat_cmp, eq_by_cmp}
use Rattle.fs_spec.specs.Files.{Body, Regular, Symlink, Directory, File, Files, file_at, is_directory}
use Rattle.fs_spec.specs.Files.{names_of, parent_of}
use Rattle.fs_spec.specs.Trees.{IsFileTree}
use Rattle.fs_spec.proofs.Walks.{some_same}
use Rattle.fs_spec.proofs.Counts.{same_number}
use Rattle.nfs_count_laws.specs.nfs_spec.FileAttributes.{is_directory_at}
use Rattle.tree_rules.specs.inodes.Inodes.{KeepsParent, body_in, file_in, parent_in}
use Rattle.tree_rules.specs.inodes.declared.inode.Body as stored
use Rattle.tree_rules.specs.inodes.declared.inode.Body.TheVariants as code
use Rattle.tree_rules.specs.inodes.declared.inode.Inode.{Inode}
use Rattle.tree_rules.specs.FileRules.Rules.{AreRising, IsAt, files_listed, numbers_of}
use Rattle.tree_rules.proofs.OfFileRules.Listed.{file_of_place, place_of_file, number_at, names_listed}
use Rattle.tree_rules.proofs.OfFileRules.Ways.{directory_above}
use Rattle.tree_rules.proofs.OfFileRules.Decided.{tree_files}
use Rattle.tree_rules.specs.Counting.{IsCount}
use Rattle.inode_table.specs.Links.Linked.{IsLinked, IsLinks, AreLinked}
use Rattle.inode_table.specs.declared.links.links.Links.{Links}
use Rattle.tree_rules.specs.Listed.{files_in}
use Rattle.tree_rules.proofs.Seen.{file_of_inode}
use Rattle.std.proofs.lemmas.Bool.{false≢true}

-- ---- directories by their numbers

module _ (fsid next : ℕ) (es : List (ℕ × File)) (up : AreRising (numbers_of es)) where
  -- a number at a place is a directory's where its file is one
  pub directory_at_place : (k n : ℕ) (f : File) → IsAt es k n f
      → is_directory_at (files_listed fsid next es) n ≡ is_directory f.body
  directory_at_place k n f at =
      ap (λ (o : Option File). option_map_or (λ f. is_directory f.body) o false)
      (file_of_place fsid next es up k n f at)

  -- and one that no place has isn't
  pub no_directory : (n : ℕ) → ((k : ℕ) → k < length es → get_or (numbers_of es) k 0 ≢ n)
      → is_directory_at (files_listed fsid next es) n ≡ false
  no_directory n not = by (file_at (files_listed fsid next es) n) refl
    where
      by : (o : Option File) → file_at (files_listed fsid next es) n ≡ o
          → is_directory_at (files_listed fsid next es) n ≡ false
      by None is = ap (λ (o : Option File). option_map_or (λ f. is_directory f.body) o false) is
      by (Some f) is =
          let p = place_of_file fsid next es up n f is in
          absurd (not p.0 (slice_get_within es p.0 (n, f) p.1) (number_at es p.0 (n, f) p.1))

-- ---- what is kept beside one file

module _ (fsid next : ℕ) (es : List (ℕ × File)) (up : AreRising (numbers_of es))
    (tree : IsFileTree (files_listed fsid next es)) (names above : List ℕ) (count : IsCount es names above)
    (k n : ℕ) (f : File) (at : IsAt es k n f) where
  -- the names that were counted are those of the number
  pub names_are : get_or names k 0 ≡ names_of (files_listed fsid next es) n
  names_are = count.counted.counted k n f at ∙ sym (names_listed fsid next es up n)

  -- the number at the place above a directory is that of the one above
  pub parent_is : is_directory f.body ≡ true
      → get_or (numbers_of es) (get_or above k 0) 0 ≡ parent_of (files_listed fsid next es) n
  parent_is is =
      let directory =
      ap (option_map (λ (f : File). is_directory f.body)) (file_of_place fsid next es up k n f at)
      ∙ ap (λ b. Some b) is in
      let p =
      directory_above fsid next es (tree_files fsid next es up tree) tree names above count.counted k n f
      at directory in
      number_at es (get_or above k 0) (parent_of (files_listed fsid next es) n, p.0) p.1

-- what is no directory has its names for links
pub plain_links : (fs : Files) (n : ℕ) (b : Body) (links : Links) → is_directory b ≡ false
    → links.nlink ≡ names_of fs n → IsLinks fs n b links
plain_links fs n (Regular bytes) links plain is =
    record { nlink_is = is; parent_is = λ e. absurd (false≢true e) }
plain_links fs n (Symlink target) links plain is =
    record { nlink_is = is; parent_is = λ e. absurd (false≢true e) }
plain_links fs n (Directory l) links plain is = absurd (false≢true (sym plain))

-- a body keeps the number of the directory above
pub keeps_parent : (b : stored.Body) (number : ℕ) → (is_directory (body_in b) ≡ true → parent_in b ≡ number)
    → KeepsParent b number
keeps_parent (code.Regular bytes) number h = tt
keeps_parent (code.Symlink target) number h = tt
keeps_parent (code.Directory parent l) number h = h refl

-- ---- one file after the other

-- what is at another place stays
get_set_other : {X : Type 0} (xs : List X) (i k : ℕ) (x : X) → k < i
    → slice_get (set xs i x) k ≡ slice_get xs k
get_set_other [] i k x h = refl
get_set_other (y ∷ xs) zero k x h = absurd (omega arith)
get_set_other (y ∷ xs) (suc i) zero x h = refl
get_set_other (y ∷ xs) (suc i) (suc k) x h = get_set_other xs i k x (omega arith)

get_set_same : {X : Type 0} (xs : List X) (i : ℕ) (x : X) → i < length xs → slice_get (set xs i x) i ≡ Some x
get_set_same [] i x h = absurd (omega arith)
get_set_same (y ∷ xs) zero x h = refl
get_set_same (y ∷ xs) (suc i) x h = get_set_same xs i x (omega arith)

set_as_it_is : {X : Type 0} (xs : List X) (i : ℕ) (x : X) → slice_get xs i ≡ Some x → set xs i x ≡ xs
set_as_it_is [] i x h = refl
set_as_it_is (y ∷ xs) zero x h = ap (λ z. z ∷ xs) (sym (some_same h))
set_as_it_is (y ∷ xs) (suc i) x h = ap (λ l. y ∷ l) (set_as_it_is xs i x h)

-- the first inodes keep what counting gives
abbrev pub AreLinkedTo : ℕ → List (ℕ × File) → List (ℕ × Inode) → Type 0
AreLinkedTo count es inodes =
    (fsid next k n : ℕ) (inode : Inode) → k < count → slice_get inodes k ≡ Some (n, inode)
    → IsLinked (files_listed fsid next es) n inode

module _ (inodes : List (ℕ × Inode)) (i n : ℕ) (old new : Inode) (at : slice_get inodes i ≡ Some (n, old))
    (same : file_in new ≡ file_in old) where
  -- the files stay
  pub files_stay : files_in (set inodes i (n, new)) ≡ files_in inodes
  files_stay =
      map-set (λ (e : ℕ × Inode). (e.0, file_in e.1)) inodes i (n, new)
      ∙ ap (λ f. set (files_in inodes) i (n, f)) same
      ∙ set_as_it_is (files_in inodes) i (n, file_in old) (file_of_inode inodes i (n, old) at)

  -- one inode more
  pub linked_more : (es : List (ℕ × File)) → AreLinkedTo i es inodes
      → ((fsid next : ℕ) → IsLinked (files_listed fsid next es) n new)
      → AreLinkedTo (i + 1) es (set inodes i (n, new))
  linked_more es before here fsid next k m inode lt stands = ⊎_elim
      (λ less. before fsid next k m inode less (sym (get_set_other inodes i k (n, new) less) ∙ stands))
      (λ ge.
      let last : k ≡ i = omega arith in
      let is : ◌≡◌ {A = ℕ × Inode} (n, new) (m, inode) =
      some_same (sym (get_set_same inodes i (n, new) (slice_get_within inodes i (n, old) at))
      ∙ ap (slice_get (set inodes i (n, new))) (sym last) ∙ stands) in
      subst (λ (e : ℕ × Inode). IsLinked (files_listed fsid next es) e.0 e.1) is (here fsid next))
      (cases_lt k i)

-- all inodes
pub linked_all : (inodes : List (ℕ × Inode)) (i : ℕ) → length inodes ≤ i → (es : List (ℕ × File))
    → files_in inodes ≡ es → AreLinkedTo i es inodes → (fsid next : ℕ)
    → AreLinked (files_listed fsid next (files_in inodes)) inodes
linked_all inodes i ge es is linked fsid next n inode at =
    let p = place_from_lookup (eq_by_cmp nat_cmp n) inodes inode at in
    let stands : slice_get inodes p.0 ≡ Some (n, inode) =
    p.2 ∙ ap (λ m. Some (m, inode)) (sym (same_number n p.1 p.3)) in
    subst (λ (l : List (ℕ × File)). IsLinked (files_listed fsid next l) n inode) (sym is)
    (linked fsid next p.0 n inode (let h = slice_get_within inodes p.0 (n, inode) stands in omega arith)
    stands)
