-- What a server keeps beside its files, so that it need not count them afresh.
use Rattle.std.specs.Prelude.{◌≡◌, ℕ, Some, IsTrue}
use Rattle.nfs_items.specs.Terms.{FileNumber}
use Rattle.nfs_laws.specs.fs_spec.Files.{File, Files, file_at, IsDirectory, parent_of}
use Rattle.nfs_laws.specs.fs_spec.Trees.{IsFileTree}
use Rattle.nfs_laws.specs.fs_spec.Changes.Limits.{has_room, entry_count, block_count}
use Rattle.nfs_laws.specs.nfs_spec.FileAttributes.{nlink_of}
use Rattle.nfs_laws.specs.Sizes.Bounds.{AreWords}

-- what is kept of each file is what counting over all files gives: its nlink, and of a directory the number
-- of the one above; of other numbers nothing is said
pub record AreCounted (fs : Files) (links above : FileNumber → ℕ) : Type 0 where
  pub nlinks : (n : FileNumber) (f : File) → file_at fs n ≡ Some f → links n ≡ nlink_of fs n f.body
  pub parents : (n : FileNumber) → IsDirectory fs n → above n ≡ parent_of fs n

-- files that a server may have, with what it keeps beside them: a tree within all limits, whose owners,
-- groups and seconds are words; and the numbers of directory entries and of blocks in all
pub record IsKept (fs : Files) (links above : FileNumber → ℕ) (kept_entries kept_blocks : ℕ) : Type 0 where
  pub tree : IsFileTree fs
  pub room : IsTrue (has_room fs)
  pub words : AreWords fs
  pub counted : AreCounted fs links above
  pub entries : kept_entries ≡ entry_count fs
  pub blocks : kept_blocks ≡ block_count fs
