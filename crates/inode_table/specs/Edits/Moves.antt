-- What the steps of a move of an entry do to the files of inodes, and to what is kept beside them.
use Rattle.std.specs.Prelude.{◌≡◌, ◌≢◌, ℕ, ◌+◌, Bool, List, Option, Some, None, if◌then◌else◌}
use Rattle.fs_spec.specs.nfs_items.Timeval.{Timeval}
use Rattle.fs_spec.specs.nfs_items.Terms.{FileNumber}
use Rattle.fs_spec.specs.Files.{File}
use Rattle.nfs_count_laws.specs.nfs_spec.Changes.{after_unlink}
use Rattle.nfs_count_laws.specs.CountChanges.{is_last_name, blocks_freed, CountsUnlinked}
use Rattle.tree_rules.specs.inodes.declared.inode.Inode.{Inode}
use Rattle.tree_rules.specs.inodes.Inodes.{files_of, stored_at, links_at, above_at}

-- a directory that lost a subdirectory has one link less
pub record LosesLink (dir : FileNumber) (of_directory : Bool) (old new : List (ℕ × Inode)) : Type 0 where
  pub files : (fsid next : ℕ) → files_of fsid next new ≡ files_of fsid next old
  pub own : links_at new dir + (if of_directory then 1 else 0) ≡ links_at old dir
  pub links : (n : FileNumber) → n ≢ dir → links_at new n ≡ links_at old n
  pub above : (n : FileNumber) → above_at new n ≡ above_at old n

-- a directory that gained a subdirectory has one link more
pub record GainsLink (dir : FileNumber) (of_directory : Bool) (old new : List (ℕ × Inode)) : Type 0 where
  pub files : (fsid next : ℕ) → files_of fsid next new ≡ files_of fsid next old
  pub own : links_at new dir ≡ links_at old dir + (if of_directory then 1 else 0)
  pub links : (n : FileNumber) → n ≢ dir → links_at new n ≡ links_at old n
  pub above : (n : FileNumber) → above_at new n ≡ above_at old n

-- a file whose name is another's already loses it, and goes where it was the last by its nlink, which frees
-- blocks
pub record LosesName (now : Timeval) (dir number : FileNumber) (f : File) (freed : ℕ)
    (old new : List (ℕ × Inode))
    : Type 0 where
  pub files : (fsid next : ℕ) → files_of fsid next new
      ≡ after_unlink (is_last_name f.body (links_at old number)) now (files_of fsid next old) number
  pub links : CountsUnlinked dir number f.body (links_at old) (links_at new)
  pub above : (n : FileNumber) → n ≢ number → above_at new n ≡ above_at old n
  pub freed_blocks : freed ≡ blocks_freed f.body (links_at old number)

-- what stood under a name that is another's already loses it, if anything did, which frees blocks
pub record DropsTarget (now : Timeval) (dir : FileNumber) (target : Option FileNumber) (freed : ℕ)
    (old new : List (ℕ × Inode)) : Type 0 where
  pub none : target ≡ None → freed ≡ 0
  pub same : target ≡ None → new ≡ old
  pub some : (t : FileNumber) (f : File) → target ≡ Some t → stored_at old t ≡ Some f
      → LosesName now dir t f freed old new
