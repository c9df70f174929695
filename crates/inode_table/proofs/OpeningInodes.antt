-- The inodes that each server begins with are the opening files, and a tree.
-- Serves: `InodeTable::opening`.
use Rattle.std.proofs.Common.{◌≡◌, ℕ, ◌+◌, arith, Bool, true, false, cond, List, [], ◌∷◌, Some, None, refl}
use Rattle.std.proofs.Common.{sym, ap, subst, ◌∙◌}
use Rattle.std.specs.Option.{option_map_or}
use Rattle.std.specs.Ordering.{nat_cmp, eq_by_cmp}
use Rattle.std.specs.FinMap as finite
use Rattle.std.specs.Cmp.{nat_cmp_total}
use Rattle.std.specs.Prelude.{IsTrue, ◌<◌, ◌^◌, map, sum_by, length}
use Rattle.fs_spec.specs.Files.{Body, File, is_directory, listing_in, parent_of}
use Rattle.fs_spec.specs.Changes.Limits.{entry_count, block_count, blocks_in, has_room}
use Rattle.nfs_count_laws.specs.nfs_laws.Sizes.Bounds.{HasWords, AreWords}
use Rattle.nfs_count_laws.specs.Counted.{AreCounted}
use Rattle.tree_rules.specs.inodes.Inodes.{links_at, above_at, file_in, files_of, parent_in, KeepsParent}
use Rattle.inode_table.specs.Kept.{AreKept}
use Rattle.fs_spec.specs.Trees.{IsFileTree}
use Rattle.fs_spec.proofs.Walks.{some_same, none_some}
use Rattle.fs_spec.proofs.Counts.{same_number}
use Rattle.nfs_count_laws.specs.nfs_spec.FileAttributes.{nlink_of}
use Rattle.nfs_count_laws.specs.nfs_spec.Opening.{first_file, opening_root, opening_hello, opening_files}
use Rattle.nfs_count_laws.proofs.nfs_spec.OpeningFiles.{hello_there, opening_names, opening_entries}
use Rattle.nfs_count_laws.proofs.nfs_spec.OpeningFiles.{opening_room}
use Rattle.nfs_count_laws.proofs.nfs_spec.OpeningTree.{one_directory, opening_is_tree}
use Rattle.tree_rules.specs.inodes.declared.inode.Body as stored
use Rattle.tree_rules.specs.inodes.declared.inode.Body.TheVariants as code
use Rattle.tree_rules.specs.inodes.declared.inode.Inode.{Inode}

-- a number of each file, in all
abbrev total : (File → ℕ) → List (ℕ × File) → ℕ
total count es = sum_by count (map (λ e. e.1) es)

-- the directory above that is kept, where it is the root's
kept_parent : (b : stored.Body) → KeepsParent b 1 → parent_in b ≡ 1
kept_parent (code.Regular bytes) e = refl
kept_parent (code.Symlink target) e = refl
kept_parent (code.Directory parent l) e = e

module _ (fsid : ℕ) (root hello : Inode) (root_file : file_in root ≡ opening_root)
    (root_nlink : root.nlink ≡ 2) (root_parent : KeepsParent root.body 1)
    (hello_file : file_in hello ≡ opening_hello) (hello_nlink : hello.nlink ≡ 1) where
  abbrev both : List (ℕ × Inode)
  both = (1, root) ∷ (2, hello) ∷ []

  abbrev first : List (ℕ × File)
  first = (1, opening_root) ∷ (2, opening_hello) ∷ []

  files : files_of fsid 3 both ≡ opening_files fsid
  files = λ i. record {
    fsid = fsid;
    next = 3;
    files = finite.from_entries ((1, root_file i) ∷ (2, hello_file i) ∷ []);
  }

  -- the root has no subdirectory
  root_links : root.nlink ≡ nlink_of (opening_files fsid) 1 opening_root.body
  root_links =
      root_nlink
      ∙ sym (ap (λ o. 2 + (0 + cond (option_map_or (λ f. is_directory f.body) o false) 1 0))
      (hello_there fsid))

  hello_links : hello.nlink ≡ nlink_of (opening_files fsid) 2 opening_hello.body
  hello_links = hello_nlink ∙ sym (opening_names fsid 2)

  opening_counted : AreCounted (opening_files fsid) (links_at both) (above_at both)
  opening_counted = record {
    nlinks = λ n f at. linked n f (eq_by_cmp nat_cmp n 1) (eq_by_cmp nat_cmp n 2) refl refl
        (sym (finite.get-from_entries nat_cmp_total first n) ∙ at);
    parents = λ n is. rooted n (one_directory fsid n is);
  }
    where
      told : (n : ℕ) → Body → ℕ
      told n body = nlink_of (opening_files fsid) n body

      linked : (n : ℕ) (f : File) (a b : Bool) → eq_by_cmp nat_cmp n 1 ≡ a → eq_by_cmp nat_cmp n 2 ≡ b
          → cond a (Some opening_root) (cond b (Some opening_hello) None) ≡ Some f
          → option_map_or (λ inode. inode.nlink) (cond a (Some root) (cond b (Some hello) None)) 0
          ≡ nlink_of (opening_files fsid) n f.body
      linked n f true b e g k =
          root_links ∙ ap (λ m. told m opening_root.body) (sym (same_number n 1 e))
          ∙ ap (λ (h : File). told n h.body) (some_same k)
      linked n f false true e g k =
          hello_links ∙ ap (λ m. told m opening_hello.body) (sym (same_number n 2 g))
          ∙ ap (λ (h : File). told n h.body) (some_same k)
      linked n f false false e g k = absurd (none_some k)

      rooted : (n : ℕ) → n ≡ 1 → above_at both n ≡ parent_of (opening_files fsid) n
      rooted n e =
          subst (λ m. above_at both m ≡ parent_of (opening_files fsid) m) (sym e)
          (kept_parent root.body root_parent)

  -- the owners, groups and times of both are 0
  opening_words : fsid < 2 ^ 32 → AreWords (opening_files fsid)
  opening_words low = record {
    fsid = low;
    files = λ n f at. by n f (eq_by_cmp nat_cmp n 1) (eq_by_cmp nat_cmp n 2)
        (sym (finite.get-from_entries nat_cmp_total first n) ∙ at);
  }
    where
      zeros : (mode : ℕ) (body : Body) → HasWords (first_file mode body)
      zeros mode body = record {
        uid = omega arith;
        gid = omega arith;
        atime = omega arith;
        mtime = omega arith;
        ctime = omega arith;
      }

      by : (n : ℕ) (f : File) (a b : Bool)
          → cond a (Some opening_root) (cond b (Some opening_hello) None) ≡ Some f → HasWords f
      by n f true b k = subst HasWords (some_same k) (zeros _ _)
      by n f false true k = subst HasWords (some_same k) (zeros _ _)
      by n f false false k = absurd (none_some k)

  -- the two inodes under 1 and 2 are a tree within its limits, and keep what counting gives
  pub opening_inodes : fsid < 2 ^ 32 → AreKept fsid 3 1 1 ((1, root) ∷ (2, hello) ∷ [])
  opening_inodes low = record {
    tree = subst IsFileTree (sym files) (opening_is_tree fsid);
    room = subst (λ w. IsTrue (has_room w)) (sym files) (opening_room fsid);
    words = subst AreWords (sym files) (opening_words low);
    counted = subst (λ w. AreCounted w (links_at both) (above_at both)) (sym files) opening_counted;
    entries = sym (ap entry_count files
        ∙ ap (total (λ f. length (listing_in f.body).entries)) (opening_entries fsid));
    blocks = sym (ap block_count files ∙ ap (total (λ f. blocks_in f.body)) (opening_entries fsid));
  }
