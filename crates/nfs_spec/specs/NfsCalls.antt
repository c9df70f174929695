-- What each call does to a server's files (RFC 1094, section 2.2): its answer, and the files after it.
-- Arguments that mean nothing (READ's totalcount, WRITE's beginoffset and totalcount) are left out.
use Rattle.std.specs.Prelude.{Result, Ok, Err, unwrap_or}
use Rattle.fs_spec.specs.nfs_items.Timeval.{Timeval}
use Rattle.fs_spec.specs.nfs_items.Caller.{Caller}
use Rattle.fs_spec.specs.nfs_items.Handle.{FileHandle, handle_of, number_in}
use Rattle.fs_spec.specs.nfs_items.declared.attributes.Fattr.{Fattr}
use Rattle.fs_spec.specs.nfs_items.declared.stat.Stat.{Stat}
use Rattle.fs_spec.specs.nfs_items.Terms.{FileNumber}
use Rattle.nfs_types.specs.Calls.{Call, Null, Getattr, Setattr, Root, Lookup, Readlink, Read, Writecache}
use Rattle.nfs_types.specs.Calls.{Write, Create, Remove, Rename, Link, Symlink, Mkdir, Rmdir, Readdir, Statfs}
use Rattle.nfs_types.specs.Calls.{Answer, Nothing, Attributes, DirOp, Target, Bytes, Status, Entries, Free}
use Rattle.fs_spec.specs.Files.{Files}
use Rattle.nfs_spec.specs.ProcedureChecks.{◌>>=◌}
use Rattle.nfs_spec.specs.Sattr.{given_fields}
use Rattle.nfs_spec.specs.Changes.{Effect}
use Rattle.nfs_spec.specs.Effects.{attributes_at, getattr, lookup}
use Rattle.nfs_spec.specs.Procedures as tree

-- the file number that a handle names here; another handle names 0, which no file has
abbrev pub number_for : Files → FileHandle → FileNumber
number_for fs handle = unwrap_or (number_in fs.fsid handle) 0

-- an effect's answer, and the files after it: a refusal leaves them as they were
abbrev pub answer_and_files : {A : Type 0} → (Result A Stat → Answer) → Files → Effect A → Answer × Files
answer_and_files say fs (Ok x) = (say (Ok x.0), x.1)
answer_and_files say fs (Err e) = (say (Err e), fs)

-- with the attributes after it, of a number or of the number that it gives
abbrev pub with_attributes : FileNumber → Effect (Unit {0}) → Effect Fattr
with_attributes n e = do
  x ← e
  a ← attributes_at x.1 n
  Ok (a, x.1)

-- with the file handle and the attributes of the number that it gives
abbrev pub with_handle : Effect FileNumber → Effect (FileHandle × Fattr)
with_handle e = do
  x ← e
  a ← attributes_at x.1 x.0
  Ok ((handle_of x.1.fsid x.0, a), x.1)

-- without the number that it gives
abbrev pub without_number : Effect FileNumber → Effect (Unit {0})
without_number e = do
  x ← e
  Ok (tt, x.1)

-- the answer to a call, and the files after it
abbrev pub call_does : Files → Caller → Timeval → Call → Answer × Files
call_does fs who now Null = (Nothing, fs)
call_does fs who now (Getattr file) = (Attributes (getattr fs file), fs)
call_does fs who now (Setattr file s) =
    answer_and_files Attributes fs (with_attributes (number_for fs file)
    (tree.set_attributes fs who now (number_for fs file) (given_fields now s)))
call_does fs who now Root = (Nothing, fs)
call_does fs who now (Lookup dir name) = (DirOp (lookup fs who dir name), fs)
call_does fs who now (Readlink file) = (Target (tree.read_link fs (number_for fs file)), fs)
call_does fs who now (Read file offset count) =
    (Bytes (tree.read fs who (number_for fs file) offset count), fs)
call_does fs who now Writecache = (Nothing, fs)
call_does fs who now (Write file offset new) =
    answer_and_files Attributes fs (with_attributes (number_for fs file)
    (tree.write fs who now (number_for fs file) offset new))
call_does fs who now (Create dir name s) =
    answer_and_files DirOp fs (with_handle
    (tree.create fs who now (number_for fs dir) name (given_fields now s)))
call_does fs who now (Remove dir name) =
    answer_and_files Status fs (tree.remove fs who now (number_for fs dir) name)
call_does fs who now (Rename from from_name to to_name) =
    answer_and_files Status fs
    (tree.rename fs who now (number_for fs from) from_name (number_for fs to) to_name)
call_does fs who now (Link from dir name) =
    answer_and_files Status fs (tree.link fs who now (number_for fs from) (number_for fs dir) name)
call_does fs who now (Symlink dir name target s) =
    answer_and_files Status fs (without_number (tree.symlink fs who now (number_for fs dir) name target))
call_does fs who now (Mkdir dir name s) =
    answer_and_files DirOp fs (with_handle
    (tree.make_dir fs who now (number_for fs dir) name (given_fields now s)))
call_does fs who now (Rmdir dir name) =
    answer_and_files Status fs (tree.remove_dir fs who now (number_for fs dir) name)
call_does fs who now (Readdir dir cookie count) =
    (Entries (tree.read_dir fs who (number_for fs dir) cookie count), fs)
call_does fs who now (Statfs file) = (Free (tree.stat_fs fs (number_for fs file)), fs)
