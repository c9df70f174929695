-- What the laws of effects speak of.
use Rattle.std.specs.Prelude.{◌≡◌, Option, Some, None, IsTrue, Result, Ok, Err}
use Rattle.fs_spec.specs.nfs_items.Caller.{Caller}
use Rattle.fs_spec.specs.nfs_items.Handle.{FileHandle, number_in, handle_of}
use Rattle.fs_spec.specs.nfs_items.declared.attributes.Fattr.{Fattr}
use Rattle.fs_spec.specs.nfs_items.declared.stat.Stat.{Stat}
use Rattle.fs_spec.specs.nfs_items.declared.stat.Stat.TheVariants as stats
use Rattle.fs_spec.specs.Names.{FilePath}
use Rattle.fs_spec.specs.nfs_items.Terms.{FileNumber, Cookie}
use Rattle.fs_spec.specs.Listing.{file_number}
use Rattle.fs_spec.specs.Paths.{path_at}
use Rattle.fs_spec.specs.Files.{File, Files, file_at, is_directory, directory_entries}
use Rattle.nfs_spec.specs.ProcedureChecks.{◌>>=◌, ok_or, may_search}
use Rattle.nfs_spec.specs.Effects.{attributes_at}

-- a path's file handle and attributes, NOENT where it leads nowhere
abbrev pub lookup_at_path : Files → FilePath → Result (FileHandle × Fattr) Stat
lookup_at_path fs path = do
  e ← ok_or stats.NoEnt (path_at (directory_entries fs) path)
  a ← attributes_at fs (file_number e)
  Ok (handle_of fs.fsid (file_number e), a)

-- a file handle is that of the directory at a path, which the caller may search
pub record IsSearchable (fs : Files) (who : Caller) (handle : FileHandle) (path : FilePath) : Type 0 where
  pub number : FileNumber
  pub cookie : Cookie
  pub file : File
  pub named : number_in fs.fsid handle ≡ Some number
  pub reached : path_at (directory_entries fs) path ≡ Some (number, cookie)
  pub there : file_at fs number ≡ Some file
  pub directory : IsTrue (is_directory file.body)
  pub searched : IsTrue (may_search who file)

-- the stat of what was refused
abbrev pub stat_in : {X : Type 0} → Result X Stat → Option Stat
stat_in (Ok x) = None
stat_in (Err e) = Some e
