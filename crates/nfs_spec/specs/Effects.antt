-- What each procedure does (RFC 1094, section 2.2): its result, and the files after it. The stat is that of
-- the first check that fails, in the order written, and then the files are as before.
use Rattle.std.specs.Prelude.{Option, Some, None, Result, Ok, Err, option_map, nat_eq, if◌then◌else◌}
use Rattle.std.specs.Cmp.Lexicographic.{pointwise}
use Rattle.fs_spec.specs.nfs_items.Caller.{Caller}
use Rattle.fs_spec.specs.nfs_items.Handle.{FileHandle, handle_of}
use Rattle.fs_spec.specs.nfs_items.declared.attributes.Fattr.{Fattr}
use Rattle.fs_spec.specs.nfs_items.declared.stat.Stat.{Stat}
use Rattle.fs_spec.specs.nfs_items.declared.stat.Stat.TheVariants as stats
use Rattle.fs_spec.specs.nfs_items.Terms.{Name, FileNumber}
use Rattle.fs_spec.specs.Names.{dot, dot_dot, is_name}
use Rattle.fs_spec.specs.Listing.{Listing, file_number, entry_at}
use Rattle.fs_spec.specs.Files.{Files, parent_of}
use Rattle.nfs_spec.specs.ProcedureChecks.{◌>>=◌, ok_or, file_of, number_of, listing_or, may_search}
use Rattle.nfs_spec.specs.FileAttributes.{attributes_of}

-- ---- of a file number

-- the attributes of a number's file: STALE where there is none
abbrev pub attributes_at : Files → FileNumber → Result Fattr Stat
attributes_at fs n = do
  f ← file_of fs n
  Ok (attributes_of fs n f)

-- the number that a name stands for in a directory, by its own number, the one above and what it lists: `.`
-- is itself, and `..` the directory above
abbrev pub number_in_listing : FileNumber → FileNumber → Listing → Name → Option FileNumber
number_in_listing own above l name =
    if pointwise nat_eq name dot then Some own
    else if pointwise nat_eq name dot_dot then Some above
    else if is_name name then option_map file_number (entry_at l name)
    else None

-- of files: the directory above the root is the root
abbrev pub number_named : Files → FileNumber → Listing → Name → Option FileNumber
number_named fs dir l name = number_in_listing dir (parent_of fs dir) l name

-- STALE, NOTDIR; search permission, else ACCES; NOENT
abbrev pub number_at_name : Files → Caller → FileNumber → Name → Result FileNumber Stat
number_at_name fs who dir name = do
  f ← file_of fs dir
  l ← listing_or stats.NotDir f.body
  if may_search who f then ok_or stats.NoEnt (number_named fs dir l name) else Err stats.Acces

-- ---- of a file handle

-- GETATTR (section 2.2.2)
abbrev pub getattr : Files → FileHandle → Result Fattr Stat
getattr fs file = do
  n ← number_of fs file
  attributes_at fs n

-- LOOKUP (section 2.2.5)
abbrev pub lookup : Files → Caller → FileHandle → Name → Result (FileHandle × Fattr) Stat
lookup fs who dir name = do
  d ← number_of fs dir
  n ← number_at_name fs who d name
  a ← attributes_at fs n
  Ok (handle_of fs.fsid n, a)
