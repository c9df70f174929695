-- Names that a caller may take out of directories.
use Rattle.std.specs.Prelude.{◌==◌, length, IfOk, Result, option_map}
use Rattle.std.specs.Result.{result_map_both}
use Rattle.nfs_spec.specs.nfs_items.Timeval.{Timeval}
use Rattle.nfs_spec.specs.nfs_items.Caller.{Caller}
use Rattle.nfs_spec.specs.nfs_items.declared.stat.Stat.{Stat}
use Rattle.nfs_spec.specs.nfs_items.declared.stat.Stat.TheVariants as stats
use Rattle.nfs_spec.specs.nfs_items.Terms.{Cookie, Name, FileNumber}
use Rattle.nfs_spec.specs.fs_spec.Listing.{Listing, file_number, entry_at}
use Rattle.nfs_spec.specs.fs_spec.Files.{File, Files}
use Rattle.nfs_spec.specs.ProcedureChecks.{◌>>=◌, ok_or, listing_or, check, NumberedDir, dir_of, check_edit}
use Rattle.nfs_spec.specs.ProcedureChecks.{number_at}
use Rattle.nfs_spec.specs.Changes.{Effect, touch, unlink}
use Rattle.inode_table.specs.nfs_count_laws.CountChanges.{MayUnlink}
use Rattle.inode_table.specs.inodes.Inodes.{file_in}
use Rattle.file_tree.specs.declared.name_checks.found.Found.{Found}

-- a directory that was found, as callers see it
abbrev pub numbered_dir : FileNumber → Found → NumberedDir
numbered_dir n found = record { number = n; file = file_in found.inode.now; listing = found.listing.now }

-- what a name stands for, or NOENT
abbrev pub number_listed : Listing → Name → Result FileNumber Stat
number_listed l name = ok_or stats.NoEnt (option_map file_number (entry_at l name))

-- the first checks of REMOVE and RMDIR
abbrev pub number_to_edit : Files → Caller → FileNumber → Name → Result FileNumber Stat
number_to_edit fs who dir name = do
  d ← dir_of fs dir
  _ ← check_edit who d name
  number_at d name

-- an empty directory, else NOTDIR or NOTEMPTY
abbrev pub check_empty : File → Result (Unit {0}) Stat
check_empty f = do
  l ← listing_or stats.NotDir f.body
  check (length l.entries == 0) stats.NotEmpty

-- REMOVE and RMDIR of a name of a number
abbrev pub unnamed : Timeval → Files → FileNumber → Name → FileNumber → Unit {0} × Files
unnamed now fs dir name n = (tt, touch now (unlink now fs dir name n) dir)

-- the same by what a check gave: the number, or a refusal
abbrev pub unnamed_by : Timeval → Files → FileNumber → Name → Result FileNumber Stat → Effect (Unit {0})
unnamed_by now fs dir name checked = result_map_both (unnamed now fs dir name) (λ e. e) checked

-- the number that a check gave stands at the name, and may go from there
abbrev pub MayGo : Files → FileNumber → Name → Result FileNumber Stat → Type 0
MayGo fs dir name checked =
    IfOk checked (λ number. (cookie : Cookie) × (f : File) × MayUnlink fs dir name number cookie f)
