-- A directory that a caller may put a free name into.
use Rattle.std.specs.Prelude.{Result, Ok}
use Rattle.nfs_spec.specs.nfs_items.Caller.{Caller}
use Rattle.nfs_spec.specs.nfs_items.declared.stat.Stat.{Stat}
use Rattle.nfs_spec.specs.nfs_items.Terms.{FileNumber, Name}
use Rattle.nfs_spec.specs.fs_spec.Listing.{Listing}
use Rattle.nfs_spec.specs.fs_spec.Files.{Files}
use Rattle.nfs_spec.specs.ProcedureChecks.{◌>>=◌, dir_of, check_edit, check_free}

-- what it lists: Dir, Edit, and EXIST where the name is taken
abbrev pub free_name : Files → Caller → FileNumber → Name → Result Listing Stat
free_name fs who dir name = do
  d ← dir_of fs dir
  _ ← check_edit who d name
  _ ← check_free d name
  Ok d.listing
