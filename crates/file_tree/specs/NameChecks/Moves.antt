-- RENAME in parts.
use Rattle.std.specs.Prelude.{◌==◌, ◌&&◌, not, false, Result, Ok, Option, Some, None, option_map}
use Rattle.std.specs.Prelude.{if◌then◌else◌}
use Rattle.std.specs.Option.{option_map_or}
use Rattle.nfs_spec.specs.nfs_items.Timeval.{Timeval}
use Rattle.nfs_spec.specs.nfs_items.Caller.{Caller}
use Rattle.nfs_spec.specs.nfs_items.declared.stat.Stat.{Stat}
use Rattle.nfs_spec.specs.nfs_items.declared.stat.Stat.TheVariants as stats
use Rattle.nfs_spec.specs.nfs_items.Terms.{Name, FileNumber}
use Rattle.nfs_spec.specs.fs_spec.Listing.{Listing, file_number, entry_at}
use Rattle.nfs_spec.specs.fs_spec.Files.{Files, is_directory}
use Rattle.nfs_spec.specs.ProcedureChecks.{◌>>=◌, file_of, dir_of, check, check_cookie, check_edit, number_at}
use Rattle.nfs_spec.specs.Procedures.{is_above, check_target, move_entry}
use Rattle.file_tree.specs.declared.name_checks.renaming.Ends.{Ends}
use Rattle.file_tree.specs.declared.name_checks.renaming.Move.{Move}

-- what moves, and what the directory that it goes to lists
abbrev pub ends_found : Ends → FileNumber × Listing
ends_found ends = (ends.number, ends.listing.now)

-- the first checks of RENAME
abbrev pub names_to_edit : Files → Caller → FileNumber → Name → FileNumber → Name
    → Result (FileNumber × Listing) Stat
names_to_edit fs who from from_name to to_name = do
  d ← dir_of fs from
  e ← dir_of fs to
  _ ← check_edit who d from_name
  _ ← check_edit who e to_name
  n ← number_at d from_name
  Ok (n, e.listing)

-- what moves, and what stands at the new name
abbrev pub Moving : Type 0
Moving = FileNumber × Option FileNumber

-- what moves, as callers see it
abbrev pub move_of : Move → Moving
move_of m = (m.number, m.target)

-- the other checks of RENAME: none moves where both names are of one file
abbrev pub move_checked : Files → FileNumber → FileNumber → Listing → Name → Result (Option Moving) Stat
move_checked fs n to l to_name = do
  f ← file_of fs n
  let target = option_map file_number (entry_at l to_name)
  if option_map_or (λ t. t == n) target false then Ok None else do
    _ ← check (not (is_directory f.body && is_above fs n to)) stats.Acces
    _ ← check_target fs f target
    _ ← check_cookie l
    Ok (Some (n, target))

-- RENAME of what moves, or of nothing
abbrev pub with_moved : Timeval → Files → FileNumber → Name → FileNumber → Name → Option Moving
    → Unit {0} × Files
with_moved now fs from from_name to to_name o =
    (tt, option_map_or (λ m. move_entry now fs m.0 from from_name to to_name m.1) o fs)

-- RENAME of a move that was checked
abbrev pub moved : Timeval → Files → FileNumber → Name → FileNumber → Name → Option Move → Unit {0} × Files
moved now fs from from_name to to_name o = with_moved now fs from from_name to to_name (option_map move_of o)
