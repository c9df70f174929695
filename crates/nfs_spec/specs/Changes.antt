-- What procedures that change files share.
use Rattle.std.specs.Prelude.{ℕ, ◌+◌, ◌-◌, ◌==◌, ◌||◌, ◌&&◌, Bool, true, List, ◌++◌, take, drop, length}
use Rattle.std.specs.Prelude.{replicate, Option, Some, None, Result, Ok, is_some, is_none, unwrap_or}
use Rattle.std.specs.Prelude.{if◌then◌else◌}
use Rattle.std.specs.Option.{option_map_or}
use Rattle.std.specs.List.{list_any}
use Rattle.fs_spec.specs.nfs_items.Timeval.{Timeval}
use Rattle.fs_spec.specs.nfs_items.Caller.{Caller}
use Rattle.fs_spec.specs.nfs_items.declared.stat.Stat.{Stat}
use Rattle.fs_spec.specs.nfs_items.declared.stat.Stat.TheVariants as stats
use Rattle.fs_spec.specs.nfs_items.Terms.{Name, FileNumber}
use Rattle.fs_spec.specs.Files.{Body, Regular, Symlink, Directory, File, Files, names_of}
use Rattle.fs_spec.specs.Changes.Edits.{with_changed_file, without_file, without_name}
use Rattle.nfs_spec.specs.ProcedureChecks.{◌>>=◌, check, check_size, bytes_of, owns, may_write}
use Rattle.nfs_spec.specs.Sattr.{GivenFields, gives_any}

-- what a procedure does if no check fails: its result, and the files after it
abbrev pub Effect : Type 0 → Type 0
Effect A = Result (A × Files) Stat

-- ---- times

-- Touch: mtime and ctime are now
abbrev pub with_mtime : Timeval → File → File
with_mtime now f = record f { mtime = now; ctime = now }

-- the same of the file of a number
abbrev pub touch : Timeval → Files → FileNumber → Files
touch now fs dir = with_changed_file fs dir (with_mtime now)

-- ctime is now
abbrev pub with_ctime : Timeval → File → File
with_ctime now f = record f { ctime = now }

-- the same of the file of a number
abbrev pub touch_ctime : Timeval → Files → FileNumber → Files
touch_ctime now fs n = with_changed_file fs n (with_ctime now)

-- ---- bytes

-- cut, or grown by zeros
abbrev pub with_length : ℕ → List ℕ → List ℕ
with_length size bytes = take size bytes ++ replicate (size - length bytes) 0

-- byte i is the one written, else the old one, else zero
abbrev pub with_bytes_at : ℕ → List ℕ → List ℕ → List ℕ
with_bytes_at offset new bytes = with_length offset bytes ++ (new ++ drop (offset + length new) bytes)

-- ---- attributes that are asked for

-- its own groups
abbrev pub is_in_group : Caller → ℕ → Bool
is_in_group who gid = (who.gid == gid) || list_any (λ g. g == gid) who.gids

-- uid 0 gives a file to any group, its owner to the same or one of its own
abbrev pub may_give_group : Caller → File → ℕ → Bool
may_give_group who f gid = (who.uid == 0) || (owns who f && ((gid == f.gid) || is_in_group who gid))

-- PERM: mode and times are set by the owner and uid 0; uid by uid 0, or the same by the owner; gid by uid 0,
-- or the same or one of its own groups by the owner
abbrev pub check_owner : Caller → File → GivenFields → Result (Unit {0}) Stat
check_owner who f a = do
  _ ← check (owns who f || (who.uid == 0) || (is_none a.mode && is_none a.atime && is_none a.mtime))
      stats.Perm
  _ ← check (option_map_or (λ uid. (who.uid == 0) || (owns who f && (uid == f.uid))) a.uid true) stats.Perm
  check (option_map_or (may_give_group who f) a.gid true) stats.Perm

-- a given size: ISDIR, or NXIO for a symbolic link; ACCES without write permission; FBIG
abbrev pub check_resize : Caller → File → Option ℕ → Result (Unit {0}) Stat
check_resize who f None = Ok tt
check_resize who f (Some size) = do
  _ ← bytes_of f.body
  _ ← check (may_write who f) stats.Acces
  check_size size

-- a regular file's bytes cut or grown to a given size; other bodies stay
abbrev pub body_with_length : Option ℕ → Body → Body
body_with_length None body = body
body_with_length (Some size) (Regular bytes) = Regular (with_length size bytes)
body_with_length (Some size) (Symlink target) = Symlink target
body_with_length (Some size) (Directory l) = Directory l

-- all is set; ctime is now if a field was given, mtime if size was given, before a given mtime
abbrev pub apply_fields : Timeval → GivenFields → File → File
apply_fields now a f = record {
  mode = unwrap_or a.mode f.mode;
  uid = unwrap_or a.uid f.uid;
  gid = unwrap_or a.gid f.gid;
  atime = unwrap_or a.atime f.atime;
  mtime = unwrap_or a.mtime (if is_some a.size then now else f.mtime);
  ctime = if gives_any a then now else f.ctime;
  body = body_with_length a.size f.body;
}

-- a new file: uid and gid are the caller's, but for uid 0 those given; times are now, but for those given
abbrev pub new_file : Caller → Timeval → GivenFields → ℕ → Body → File
new_file who now a mode body = record {
  mode = unwrap_or a.mode mode;
  uid = if who.uid == 0 then unwrap_or a.uid who.uid else who.uid;
  gid = if who.uid == 0 then unwrap_or a.gid who.gid else who.gid;
  atime = unwrap_or a.atime now;
  mtime = unwrap_or a.mtime now;
  ctime = now;
  body = body;
}

-- ---- names

-- the files after a name of a number went: where it was the last the number is gone, else its ctime is now
abbrev pub after_unlink : Bool → Timeval → Files → FileNumber → Files
after_unlink is_last now left n = record left {
  files = if is_last then (without_file left n).files else (touch_ctime now left n).files;
}

-- a name of a number goes
abbrev pub unlink : Timeval → Files → FileNumber → Name → FileNumber → Files
unlink now fs dir name n =
    let left = without_name fs dir name in
    after_unlink (names_of left n == 0) now left n
