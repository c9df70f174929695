-- What becomes of a file whose name goes.
use Rattle.std.specs.Prelude.{◌≡◌, ◌≢◌, ◌+◌, Some, None}
use Rattle.nfs_spec.specs.nfs_items.Timeval.{Timeval}
use Rattle.nfs_spec.specs.fs_spec.Paths.{path_at}
use Rattle.nfs_spec.specs.nfs_items.Terms.{FileNumber, Cookie}
use Rattle.nfs_spec.specs.fs_spec.Names.{FilePath}
use Rattle.nfs_spec.specs.fs_spec.Files.{File, Files, file_at, directory_entries, names_of}

-- a number is no file's, and no path leads to it
pub record IsGone (fs : Files) (n : FileNumber) : Type 0 where
  pub file : file_at fs n ≡ None
  pub paths : (path : FilePath) (cookie : Cookie) → path_at (directory_entries fs) path ≢ Some (n, cookie)

-- a file has one name less than before, and was changed now
pub record HasOneNameLess (before after : Files) (now : Timeval) (n : FileNumber) : Type 0 where
  pub file : File
  pub there : file_at after n ≡ Some file
  pub ctime : file.ctime ≡ now
  pub names : names_of after n + 1 ≡ names_of before n
