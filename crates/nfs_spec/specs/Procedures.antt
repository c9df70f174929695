-- What each procedure does to numbered files (RFC 1094, section 2.2): its checks in the order written, each
-- with its stat, then its effect.
use Rattle.std.specs.Prelude.{ℕ, zero, suc, ◌+◌, ◌-◌, ◌==◌, ◌||◌, ◌&&◌, not, Bool, true, false, List, []}
use Rattle.std.specs.Prelude.{take, drop, length, replicate, min, Option, Some, None, Result, Ok, option_map}
use Rattle.std.specs.Prelude.{is_some, unwrap_or, if◌then◌else◌}
use Rattle.std.specs.Option.{option_map_or}
use Rattle.fs_spec.specs.nfs_items.Timeval.{Timeval}
use Rattle.fs_spec.specs.nfs_items.Caller.{Caller}
use Rattle.fs_spec.specs.nfs_items.declared.attributes.Fattr.{Fattr}
use Rattle.fs_spec.specs.nfs_items.declared.stat.Stat.{Stat}
use Rattle.fs_spec.specs.nfs_items.declared.stat.Stat.TheVariants as stats
use Rattle.fs_spec.specs.Maxima.{max_data, max_blocks}
use Rattle.fs_spec.specs.nfs_items.Terms.{Name, FileNumber, Cookie}
use Rattle.fs_spec.specs.Names.{is_name}
use Rattle.nfs_types.specs.declared.results.FsStats.{FsStats}
use Rattle.fs_spec.specs.Listing.{file_number, entry_at}
use Rattle.fs_spec.specs.Files.{Body, Regular, Symlink, Directory, File, Files, is_directory, listing_in}
use Rattle.fs_spec.specs.Files.{parent_of}
use Rattle.fs_spec.specs.Changes.Edits.{with_new_file, with_changed_file, with_name, without_name}
use Rattle.fs_spec.specs.Changes.Limits.{block_count, file_count}
use Rattle.nfs_spec.specs.FileAttributes.{attributes_of}
use Rattle.nfs_spec.specs.ProcedureChecks.{◌>>=◌, NumberedDir, file_of, listing_or, dir_of, check, check_size}
use Rattle.nfs_spec.specs.ProcedureChecks.{check_room, check_cookie, check_edit, check_free, number_at}
use Rattle.nfs_spec.specs.ProcedureChecks.{bytes_of, target_of, permits, may_search, may_read, may_write}
use Rattle.nfs_spec.specs.Sattr.{GivenFields, no_fields}
use Rattle.nfs_spec.specs.Changes.{Effect, touch, touch_ctime, with_mtime, with_bytes_at, check_owner}
use Rattle.nfs_spec.specs.Changes.{check_resize, apply_fields, new_file, unlink}
use Rattle.nfs_types.specs.Calls.{Page}
use Rattle.nfs_spec.specs.Readdir.{dir_entries, page_of}

-- SETATTR (section 2.2.3): STALE; PERM as to mode, times, uid and gid; as to a size ISDIR, NXIO, ACCES, FBIG
-- and NOSPC
abbrev pub set_attributes : Files → Caller → Timeval → FileNumber → GivenFields → Effect (Unit {0})
set_attributes fs who now n a = do
  f ← file_of fs n
  _ ← check_owner who f a
  _ ← check_resize who f a.size
  let after = with_changed_file fs n (apply_fields now a)
  _ ← if is_some a.size then check_room after else Ok tt
  Ok (tt, after)

-- READLINK (section 2.2.6): STALE, NXIO
abbrev pub read_link : Files → FileNumber → Result (List ℕ) Stat
read_link fs n = do
  f ← file_of fs n
  target_of f.body

-- READ (section 2.2.7): STALE, ISDIR, NXIO, ACCES; at most count and MAXDATA bytes from the offset, none past
-- the end
abbrev pub read : Files → Caller → FileNumber → ℕ → ℕ → Result (Fattr × List ℕ) Stat
read fs who n offset count = do
  f ← file_of fs n
  bytes ← bytes_of f.body
  _ ← check (may_read who f || permits who f 1) stats.Acces
  Ok (attributes_of fs n f, take (min count max_data) (drop offset bytes))

-- with bytes written at an offset
abbrev pub with_bytes_written : Timeval → ℕ → List ℕ → List ℕ → File → File
with_bytes_written now offset new old f =
    with_mtime now (record f { body = Regular (with_bytes_at offset new old) })

-- WRITE (section 2.2.9): STALE, ISDIR, NXIO, ACCES, FBIG, NOSPC; of no bytes, nothing changes
abbrev pub write : Files → Caller → Timeval → FileNumber → ℕ → List ℕ → Effect (Unit {0})
write fs who now n offset new = do
  f ← file_of fs n
  old ← bytes_of f.body
  _ ← check (may_write who f) stats.Acces
  let after = with_changed_file fs n (with_bytes_written now offset new old)
  if length new == 0 then Ok (tt, fs) else do
    _ ← check_size (offset + length new)
    _ ← check_room after
    Ok (tt, after)

-- a new file with a name
abbrev pub add_file : Timeval → Files → FileNumber → Name → File → Files
add_file now fs dir name f = touch now (with_name (with_new_file fs f) dir name fs.next) dir

-- whether a body is a regular file's
abbrev pub is_regular : Body → Bool
is_regular (Regular bytes) = true
is_regular (Symlink target) = false
is_regular (Directory l) = false

-- CREATE of a name that is there: EXIST unless regular, else as SETATTR
abbrev pub create_over : Files → Caller → Timeval → GivenFields → FileNumber → Effect FileNumber
create_over fs who now a n = do
  f ← file_of fs n
  _ ← check (is_regular f.body) stats.Exist
  after ← set_attributes fs who now n a
  Ok (n, after.1)

-- CREATE of a new name: write permission in the directory, else ACCES; FBIG, NOSPC; mode or 0644
abbrev pub create_new : Files → Caller → Timeval → NumberedDir → Name → GivenFields → Effect FileNumber
create_new fs who now d name a = do
  _ ← check (may_write who d.file) stats.Acces
  _ ← check_size (unwrap_or a.size 0)
  let zeros = replicate (unwrap_or a.size 0) 0
  let after = add_file now fs d.number name (new_file who now a 0o644 (Regular zeros))
  _ ← check_room after
  Ok (fs.next, after)

-- CREATE (section 2.2.10): STALE, NOTDIR, ACCES; then as to the name that is there, or the new one
abbrev pub create : Files → Caller → Timeval → FileNumber → Name → GivenFields → Effect FileNumber
create fs who now dir name a = do
  d ← dir_of fs dir
  _ ← check (is_name name) stats.Acces
  _ ← check (may_search who d.file) stats.Acces
  option_map_or (λ e. create_over fs who now a (file_number e)) (entry_at d.listing name)
      (create_new fs who now d name a)

-- a new file under a free name: STALE, NOTDIR, ACCES, EXIST, NOSPC
abbrev pub make : Files → Caller → Timeval → FileNumber → Name → File → Effect FileNumber
make fs who now dir name f = do
  d ← dir_of fs dir
  _ ← check_edit who d name
  _ ← check_free d name
  let after = add_file now fs dir name f
  _ ← check_room after
  Ok (fs.next, after)

-- MKDIR (section 2.2.15): mode or 0755
abbrev pub make_dir : Files → Caller → Timeval → FileNumber → Name → GivenFields → Effect FileNumber
make_dir fs who now dir name a =
    make fs who now dir name (new_file who now a 0o755 (Directory (record { next = 3; entries = [] })))

-- SYMLINK (section 2.2.14): mode 0777, the caller's, and all times now
abbrev pub symlink : Files → Caller → Timeval → FileNumber → Name → List ℕ → Effect FileNumber
symlink fs who now dir name target =
    make fs who now dir name (new_file who now no_fields 0o777 (Symlink target))

-- LINK (section 2.2.13): of the file STALE, ISDIR; of the directory STALE, NOTDIR, ACCES, EXIST, NOSPC
abbrev pub link : Files → Caller → Timeval → FileNumber → FileNumber → Name → Effect (Unit {0})
link fs who now from dir name = do
  f ← file_of fs from
  _ ← check (not (is_directory f.body)) stats.IsDir
  d ← dir_of fs dir
  _ ← check_edit who d name
  _ ← check_free d name
  let after = touch now (with_name (touch_ctime now fs from) dir name from) dir
  _ ← check_room after
  Ok (tt, after)

-- REMOVE (section 2.2.11): STALE, NOTDIR, ACCES, NOENT, ISDIR
abbrev pub remove : Files → Caller → Timeval → FileNumber → Name → Effect (Unit {0})
remove fs who now dir name = do
  d ← dir_of fs dir
  _ ← check_edit who d name
  n ← number_at d name
  f ← file_of fs n
  _ ← check (not (is_directory f.body)) stats.IsDir
  Ok (tt, touch now (unlink now fs dir name n) dir)

-- RMDIR (section 2.2.16): STALE, NOTDIR, ACCES, NOENT, NOTDIR, NOTEMPTY
abbrev pub remove_dir : Files → Caller → Timeval → FileNumber → Name → Effect (Unit {0})
remove_dir fs who now dir name = do
  d ← dir_of fs dir
  _ ← check_edit who d name
  n ← number_at d name
  f ← file_of fs n
  l ← listing_or stats.NotDir f.body
  _ ← check (length l.entries == 0) stats.NotEmpty
  Ok (tt, touch now (unlink now fs dir name n) dir)

-- whether a number is a directory or above it, in at most as many steps up as the first number says
abbrev pub climbs_to : ℕ → Files → FileNumber → FileNumber → Bool
climbs_to zero fs upper dir = upper == dir
climbs_to (suc k) fs upper dir = (upper == dir) || climbs_to k fs upper (parent_of fs dir)

-- no way up is longer than there are files
abbrev pub is_above : Files → FileNumber → FileNumber → Bool
is_above fs upper dir = climbs_to (file_count fs) fs upper dir

-- whether what stands at the new name may be replaced: a directory over another kind is NOTDIR, another kind
-- over a directory ISDIR, and a directory that is not empty NOTEMPTY
abbrev pub check_target : Files → File → Option FileNumber → Result (Unit {0}) Stat
check_target fs f None = Ok tt
check_target fs f (Some n) = do
  t ← file_of fs n
  _ ← check (not (is_directory f.body) || is_directory t.body) stats.NotDir
  _ ← check (is_directory f.body || not (is_directory t.body)) stats.IsDir
  check (length (listing_in t.body).entries == 0) stats.NotEmpty

-- the target goes as by REMOVE or RMDIR
abbrev pub unlink_target : Timeval → Files → FileNumber → Name → Option FileNumber → Files
unlink_target now fs dir name target =
    record fs { files = option_map_or (λ n. (unlink now fs dir name n).files) target fs.files }

-- the entry comes last in its new directory, with a new cookie
abbrev pub move_entry :
    Timeval → Files → FileNumber → FileNumber → Name → FileNumber → Name → Option FileNumber → Files
move_entry now fs n from from_name to to_name target =
    let left = without_name (unlink_target now fs to to_name target) from from_name in
    let moved = with_name left to to_name n in
    touch now (touch now (touch_ctime now moved n) from) to

-- RENAME (section 2.2.12): of either directory STALE, NOTDIR, ACCES; NOENT; where the target is the same
-- file, nothing changes; ACCES into itself; NOTDIR, ISDIR, NOTEMPTY of the target; NOSPC for a cookie
abbrev pub rename : Files → Caller → Timeval → FileNumber → Name → FileNumber → Name → Effect (Unit {0})
rename fs who now from from_name to to_name = do
  d ← dir_of fs from
  e ← dir_of fs to
  _ ← check_edit who d from_name
  _ ← check_edit who e to_name
  n ← number_at d from_name
  f ← file_of fs n
  let target = option_map file_number (entry_at e.listing to_name)
  let after = move_entry now fs n from from_name to to_name target
  if option_map_or (λ t. t == n) target false then Ok (tt, fs) else do
    _ ← check (not (is_directory f.body && is_above fs n to)) stats.Acces
    _ ← check_target fs f target
    _ ← check_cookie e.listing
    Ok (tt, after)

-- READDIR (section 2.2.17): STALE, NOTDIR, ACCES
abbrev pub read_dir : Files → Caller → FileNumber → Cookie → ℕ → Result Page Stat
read_dir fs who n cookie count = do
  d ← dir_of fs n
  _ ← check (may_read who d.file) stats.Acces
  Ok (page_of cookie count (dir_entries fs n d.listing))

-- STATFS (section 2.2.18): STALE; free is what regular files leave
abbrev pub stat_fs : Files → FileNumber → Result FsStats Stat
stat_fs fs n = do
  f ← file_of fs n
  Ok (record {
    transfer_size = max_data;
    block_size = 512;
    blocks = max_blocks;
    free = max_blocks - block_count fs;
    available = max_blocks - block_count fs;
  })
