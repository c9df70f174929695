-- What linked inodes keep is what counting gives, by their numbers.
-- Serves: `linked_inodes`.
use Rattle.std.proofs.Common.{◌≡◌, ℕ, List, Option, Some, None, true, option_map, refl, sym, ap, ◌∙◌}
use Rattle.std.specs.Option.{option_map_or}
use Rattle.fs_spec.specs.Files.{File, file_at, is_directory, IsDirectory, parent_of}
use Rattle.fs_spec.proofs.Walks.{none_some, some_same}
use Rattle.nfs_count_laws.specs.nfs_spec.FileAttributes.{nlink_of}
use Rattle.nfs_count_laws.specs.Counted.{AreCounted}
use Rattle.tree_rules.specs.inodes.Inodes.{KeepsParent, body_in, file_in, files_of, inode_at, parent_in}
use Rattle.tree_rules.specs.inodes.Inodes.{above_at}
use Rattle.tree_rules.specs.inodes.Inodes.{links_at}
use Rattle.tree_rules.specs.inodes.declared.inode.Body as stored
use Rattle.tree_rules.specs.inodes.declared.inode.Body.TheVariants as code
use Rattle.tree_rules.specs.inodes.declared.inode.Inode.{Inode}
use Rattle.tree_rules.proofs.inodes.FilesSeen.{file_seen}
use Rattle.std.proofs.lemmas.Bool.{false≢true}
use Rattle.inode_table.specs.Links.Linked.{AreLinked}

-- a directory keeps the number of the one above
kept_parent : (b : stored.Body) (number : ℕ) → is_directory (body_in b) ≡ true → KeepsParent b number
    → parent_in b ≡ number
kept_parent (code.Regular bytes) number is h = absurd (false≢true is)
kept_parent (code.Symlink target) number is h = absurd (false≢true is)
kept_parent (code.Directory parent l) number is h = h

module _ (fsid next : ℕ) (inodes : List (ℕ × Inode)) where
  -- the inode whose file has a number
  inode_of : (n : ℕ) (f : File) → file_at (files_of fsid next inodes) n ≡ Some f
      → (i : Inode) × (inode_at inodes n ≡ Some i) × (file_in i ≡ f)
  inode_of n f there = by (inode_at inodes n) refl
    where
      by : (o : Option Inode) → inode_at inodes n ≡ o
          → (i : Inode) × (inode_at inodes n ≡ Some i) × (file_in i ≡ f)
      by None is =
          absurd (none_some (sym (file_seen fsid next inodes n ∙ ap (option_map file_in) is) ∙ there))
      by (Some i) is =
          (i, is, some_same (sym (file_seen fsid next inodes n ∙ ap (option_map file_in) is) ∙ there))

  directory_of : (n : ℕ) → IsDirectory (files_of fsid next inodes) n
      → (f : File) × (file_at (files_of fsid next inodes) n ≡ Some f) × (is_directory f.body ≡ true)
  directory_of n is = by (file_at (files_of fsid next inodes) n) refl
    where
      by : (o : Option File) → file_at (files_of fsid next inodes) n ≡ o
          → (f : File) × (file_at (files_of fsid next inodes) n ≡ Some f) × (is_directory f.body ≡ true)
      by None e = absurd (none_some (sym (ap (option_map (λ (f : File). is_directory f.body)) e) ∙ is))
      by (Some f) e = (f, e, some_same (sym (ap (option_map (λ (f : File). is_directory f.body)) e) ∙ is))

  -- inodes that are linked keep what counting over the files gives
  pub linked_counted : AreLinked (files_of fsid next inodes) inodes
      → AreCounted (files_of fsid next inodes) (links_at inodes) (above_at inodes)
  linked_counted linked = record {
    nlinks = λ n f there.
        let i = inode_of n f there in
        ap (λ (o : Option Inode). option_map_or (λ i. i.nlink) o 0) i.1 ∙ (linked n i.0 i.1).nlink_is
        ∙ ap (λ (f : File). nlink_of (files_of fsid next inodes) n f.body) i.2;
    parents = λ n is.
        let f = directory_of n is in
        let i = inode_of n f.0 f.1 in
        ap (λ (o : Option Inode). option_map_or (λ i. parent_in i.body) o 1) i.1
        ∙ kept_parent i.0.body (parent_of (files_of fsid next inodes) n)
        (ap (λ (f : File). is_directory f.body) i.2 ∙ f.2) (linked n i.0 i.1).parent_is;
  }
