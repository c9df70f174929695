-- What it is that files are a tree.
use Rattle.std.specs.Prelude.{◌≡◌, ◌≢◌, ◌<◌, ◌≤◌, IsTrue, IsSome, Some, length}
use Rattle.nfs_items.specs.Timeval.{Timeval}
use Rattle.nfs_items.specs.Terms.{FileNumber, Name}
use Rattle.fs_spec.specs.Listing.{IsRising, HasDistinctNames}
use Rattle.fs_spec.specs.Paths.{IsTree}
use Rattle.fs_spec.specs.Maxima.{max_file_size, max_target, max_name}
use Rattle.fs_spec.specs.Names.{is_name}
use Rattle.fs_spec.specs.Files.{Body, Regular, Symlink, Directory, File, Files, file_at, IsDirectory}
use Rattle.fs_spec.specs.Files.{directory_entries}
use Rattle.fs_spec.specs.Files.{parent_of, names_of}

-- a body is within its limit, in bytes; the cookies of a directory rise from 3 to below the next, and its
-- names differ
abbrev pub IsBody : Body → Type 0
IsBody (Regular bytes) = length bytes ≤ max_file_size
IsBody (Symlink target) = length target ≤ max_target
IsBody (Directory l) = IsRising 3 l.entries l.next × HasDistinctNames l.entries

-- a time's microseconds are less than a second
abbrev pub IsTime : Timeval → Type 0
IsTime t = t.microseconds < 1_000_000

-- a file is within its limits: a mode of twelve bits, three times, and a body within its own
pub record IsFile (f : File) : Type 0 where
  pub mode : f.mode < 0o10000
  pub atime : IsTime f.atime
  pub mtime : IsTime f.mtime
  pub ctime : IsTime f.ctime
  pub body : IsBody f.body

-- the files are a tree of numbers from 1 to below the next
pub record IsFileTree (fs : Files) : Type 0 where
  pub tree : IsTree (λ n. IsSome (file_at fs n)) (IsDirectory fs) (parent_of fs) (directory_entries fs)
  pub root : names_of fs 1 ≡ 0
  pub directories : (n : FileNumber) → n ≢ 1 → IsDirectory fs n → names_of fs n ≡ 1
  pub named : (n : FileNumber) → n ≢ 1 → IsSome (file_at fs n) → 0 < names_of fs n
  pub numbers : (n : FileNumber) → IsSome (file_at fs n) → (1 ≤ n) × (n < fs.next)
  pub names : (n : FileNumber) (name : Name) → IsSome (directory_entries fs n name)
      → IsTrue (is_name name) × (length name ≤ max_name)
  pub files : (n : FileNumber) (f : File) → file_at fs n ≡ Some f → IsFile f
