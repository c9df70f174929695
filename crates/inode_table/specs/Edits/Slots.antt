-- What an edit of inodes does to their files, and to what is kept beside them.
use Rattle.std.specs.Prelude.{◌≡◌, ◌≢◌, ◌<◌, ℕ, ◌+◌, Bool, true, false, List, Some}
use Rattle.std.specs.Prelude.{if◌then◌else◌}
use Rattle.fs_spec.specs.nfs_items.Timeval.{Timeval}
use Rattle.fs_spec.specs.nfs_items.Terms.{FileNumber, Name}
use Rattle.fs_spec.specs.Files.{File, is_directory}
use Rattle.fs_spec.specs.Trees.{IsBody}
use Rattle.fs_spec.specs.Changes.Edits.{with_changed_file, with_new_file, without_file, with_name}
use Rattle.fs_spec.specs.Changes.Edits.{without_name}
use Rattle.fs_spec.specs.Changes.Limits.{blocks_in}
use Rattle.nfs_count_laws.specs.nfs_spec.Changes.{after_unlink}
use Rattle.nfs_count_laws.specs.nfs_spec.Procedures.{add_file}
use Rattle.nfs_count_laws.specs.CountChanges.{is_last_name, blocks_freed, CountsUnlinked}
use Rattle.tree_rules.specs.inodes.declared.inode.Inode.{Inode}
use Rattle.tree_rules.specs.inodes.Inodes.{body_in, file_in, files_of, inode_at, parent_in, stored_at}
use Rattle.tree_rules.specs.inodes.Inodes.{links_at}
use Rattle.tree_rules.specs.inodes.Inodes.{above_at}

-- nothing that is seen or kept changes
pub record AreAlike (old new : List (ℕ × Inode)) : Type 0 where
  pub files : (fsid next : ℕ) → files_of fsid next new ≡ files_of fsid next old
  pub links : (n : FileNumber) → links_at new n ≡ links_at old n
  pub above : (n : FileNumber) → above_at new n ≡ above_at old n

-- the file of a number changes, and what is kept beside it stays
pub record ChangesFile (number : FileNumber) (change : File → File)
    (old new : List (ℕ × Inode)) : Type 0 where
  pub files : (fsid next : ℕ)
      → files_of fsid next new ≡ with_changed_file (files_of fsid next old) number change
  pub links : (n : FileNumber) → links_at new n ≡ links_at old n
  pub above : (n : FileNumber) → above_at new n ≡ above_at old n

-- the blocks of a number's file before and after it changed
pub record IsBlockChange (number : FileNumber) (was is : ℕ) (old new : List (ℕ × Inode)) : Type 0 where
  pub before : (f : File) → stored_at old number ≡ Some f → was ≡ blocks_in f.body
  pub after : (f : File) → stored_at new number ≡ Some f → is ≡ blocks_in f.body

-- the files stay, and so does what is kept, but for the nlink of a number
pub record ChangesLinks (number : FileNumber) (old new : List (ℕ × Inode)) : Type 0 where
  pub files : (fsid next : ℕ) → files_of fsid next new ≡ files_of fsid next old
  pub links : (n : FileNumber) → n ≢ number → links_at new n ≡ links_at old n
  pub above : (n : FileNumber) → above_at new n ≡ above_at old n

-- the directory above a directory becomes another; files and links stay
pub record SetsParent (number parent : FileNumber) (old new : List (ℕ × Inode)) : Type 0 where
  pub files : (fsid next : ℕ) → files_of fsid next new ≡ files_of fsid next old
  pub links : (n : FileNumber) → links_at new n ≡ links_at old n
  pub own : (inode : Inode) → inode_at old number ≡ Some inode → is_directory (body_in inode.body) ≡ true
      → above_at new number ≡ parent
  pub others : (n : FileNumber) → n ≢ number → above_at new n ≡ above_at old n

-- one more inode, under the next number
pub record AddsInode (number : FileNumber) (inode : Inode) (old new : List (ℕ × Inode)) : Type 0 where
  pub files : (fsid : ℕ)
      → files_of fsid (number + 1) new ≡ with_new_file (files_of fsid number old) (file_in inode)
  pub own : links_at new number ≡ inode.nlink
  pub own_above : above_at new number ≡ parent_in inode.body
  pub links : (n : FileNumber) → n ≢ number → links_at new n ≡ links_at old n
  pub above : (n : FileNumber) → n ≢ number → above_at new n ≡ above_at old n

-- one inode less
pub record RemovesInode (number : FileNumber) (old new : List (ℕ × Inode)) : Type 0 where
  pub files : (fsid next : ℕ)
      → files_of fsid next new ≡ without_file (files_of fsid next old) number
  pub own : links_at new number ≡ 0
  pub own_above : above_at new number ≡ 1
  pub links : (n : FileNumber) → n ≢ number → links_at new n ≡ links_at old n
  pub above : (n : FileNumber) → n ≢ number → above_at new n ≡ above_at old n

-- a name of a file may go from another directory, by what is kept with both
pub record MayUnname (inodes : List (ℕ × Inode)) (dir number : FileNumber) (f : File) : Type 0 where
  pub there : stored_at inodes number ≡ Some f
  pub body : IsBody f.body
  pub links : 0 < links_at inodes number
  pub apart : dir ≢ number
  pub counted : is_directory f.body ≡ true → 0 < links_at inodes dir

-- a name of a file goes, and the file where it was the last by its nlink, which frees blocks
pub record Unnames (now : Timeval) (dir : FileNumber) (name : Name) (number : FileNumber) (f : File)
    (freed : ℕ)
    (old new : List (ℕ × Inode)) : Type 0 where
  pub files : (fsid next : ℕ) → files_of fsid next new
      ≡ after_unlink (is_last_name f.body (links_at old number)) now
      (without_name (files_of fsid next old) dir name) number
  pub links : CountsUnlinked dir number f.body (links_at old) (links_at new)
  pub above : (n : FileNumber) → n ≢ number → above_at new n ≡ above_at old n
  pub freed_blocks : freed ≡ blocks_freed f.body (links_at old number)

-- an entry more, of a directory or another file
pub record AddsEntry (dir : FileNumber) (name : Name) (number : FileNumber) (of_directory : Bool)
    (old new : List (ℕ × Inode)) : Type 0 where
  pub files : (fsid next : ℕ) → files_of fsid next new ≡ with_name (files_of fsid next old) dir name number
  pub own : links_at new dir ≡ links_at old dir + (if of_directory then 1 else 0)
  pub links : (n : FileNumber) → n ≢ dir → links_at new n ≡ links_at old n
  pub above : (n : FileNumber) → above_at new n ≡ above_at old n

-- an entry less, of a directory or another file
pub record TakesEntry (dir : FileNumber) (name : Name) (of_directory : Bool) (old new : List (ℕ × Inode))
    : Type 0 where
  pub files : (fsid next : ℕ) → files_of fsid next new ≡ without_name (files_of fsid next old) dir name
  pub own : links_at new dir + (if of_directory then 1 else 0) ≡ links_at old dir
  pub links : (n : FileNumber) → n ≢ dir → links_at new n ≡ links_at old n
  pub above : (n : FileNumber) → above_at new n ≡ above_at old n

-- a file loses a name, and goes where that was the last
pub record DropsName (now : Timeval) (number : FileNumber) (is_last : Bool) (old new : List (ℕ × Inode))
    : Type 0 where
  pub files : (fsid next : ℕ)
      → files_of fsid next new ≡ after_unlink is_last now (files_of fsid next old) number
  pub own : is_last ≡ false → links_at new number + 1 ≡ links_at old number
  pub links : (n : FileNumber) → n ≢ number → links_at new n ≡ links_at old n
  pub above : (n : FileNumber) → n ≢ number → above_at new n ≡ above_at old n

-- a new inode under a number, with an entry last in a directory, which is touched
pub record AddsNamed (now : Timeval) (dir : FileNumber) (name : Name) (number : FileNumber) (inode : Inode)
    (of_directory : Bool) (old new : List (ℕ × Inode)) : Type 0 where
  pub files : (fsid : ℕ) → files_of fsid (number + 1) new
      ≡ add_file now (files_of fsid number old) dir name (file_in inode)
  pub own : links_at new number ≡ inode.nlink
  pub own_above : above_at new number ≡ parent_in inode.body
  pub directory : links_at new dir ≡ links_at old dir + (if of_directory then 1 else 0)
  pub links : (n : FileNumber) → n ≢ number → n ≢ dir → links_at new n ≡ links_at old n
  pub above : (n : FileNumber) → n ≢ number → above_at new n ≡ above_at old n
