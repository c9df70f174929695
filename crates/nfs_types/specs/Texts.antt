-- What bytes say of a call, and the bytes of its answer (RFC 1094, section 2.2).
use Rattle.std.specs.Prelude.{ℕ, ◌<◌, ◌^◌, List, [], ◌∷◌, Option, Ok, map}
use Rattle.std.specs.List.{AllByRecursion}
use Rattle.byteorder.specs.Endian.{big_number, big_bytes}
use Rattle.nfs_items.specs.xdr.Item.{Item, empty, pair, linked, flag, Value, Fits}
use Rattle.nfs_items.specs.xdr.Reading.{Read}
use Rattle.nfs_items.specs.Programs as programs
use Rattle.nfs_items.specs.Programs.{Procedure, Program}
use Rattle.nfs_items.specs.Handle.{fhandle}
use Rattle.nfs_items.specs.Attributes.{fattr, fattr_value, outcome_value}
use Rattle.nfs_items.specs.Sattr.{sattr_of}
use Rattle.nfs_types.specs.declared.results.FsStats.{FsStats}
use Rattle.nfs_types.specs.declared.arguments.NfsProcedure.{NfsProcedure}
use Rattle.nfs_types.specs.declared.arguments.NfsProcedure.TheVariants as procedures
use Rattle.nfs_types.specs.Calls as calls
use Rattle.nfs_types.specs.Calls.{Call, Answer, PageEntry, Page}
use Rattle.nfs_types.specs.Items.{diropargs, sattrargs, readargs, writeargs, createargs, renameargs, linkargs}
use Rattle.nfs_types.specs.Items.{symlinkargs, readdirargs}
use Rattle.nfs_types.specs.Items.{nfsdata, path, attrstat, diropres, readlinkres, readres, status, entry}
use Rattle.nfs_types.specs.Items.{readdirres, fs_stats, statfsres}

-- ---- arguments

-- what a procedure takes and gives
abbrev pub procedure_of : NfsProcedure → Procedure Call
procedure_of procedures.Null = record { arguments = empty; says = λ v. calls.Null; results = empty }
procedure_of procedures.Getattr = record { arguments = fhandle; says = calls.Getattr; results = attrstat }
procedure_of procedures.Setattr =
    record { arguments = sattrargs; says = λ v. calls.Setattr v.0 (sattr_of v.1); results = attrstat }
procedure_of procedures.Root = record { arguments = empty; says = λ v. calls.Root; results = empty }
procedure_of procedures.Lookup =
    record { arguments = diropargs; says = λ v. calls.Lookup v.0 v.1; results = diropres }
procedure_of procedures.Readlink =
    record { arguments = fhandle; says = calls.Readlink; results = readlinkres }
procedure_of procedures.Read =
    record { arguments = readargs; says = λ v. calls.Read v.0 v.1.0 v.1.1.0; results = readres }
procedure_of procedures.Writecache =
    record { arguments = empty; says = λ v. calls.Writecache; results = empty }
procedure_of procedures.Write =
    record { arguments = writeargs; says = λ v. calls.Write v.0 v.1.1.0 v.1.1.1.1; results = attrstat }
procedure_of procedures.Create =
    record { arguments = createargs; says = λ v. calls.Create v.0.0 v.0.1 (sattr_of v.1); results = diropres }
procedure_of procedures.Remove =
    record { arguments = diropargs; says = λ v. calls.Remove v.0 v.1; results = status }
procedure_of procedures.Rename =
    record { arguments = renameargs; says = λ v. calls.Rename v.0.0 v.0.1 v.1.0 v.1.1; results = status }
procedure_of procedures.Link =
    record { arguments = linkargs; says = λ v. calls.Link v.0 v.1.0 v.1.1; results = status }
procedure_of procedures.Symlink =
    record {
      arguments = symlinkargs;
      says = λ v. calls.Symlink v.0.0 v.0.1 v.1.0 (sattr_of v.1.1);
      results = status;
    }
procedure_of procedures.Mkdir =
    record { arguments = createargs; says = λ v. calls.Mkdir v.0.0 v.0.1 (sattr_of v.1); results = diropres }
procedure_of procedures.Rmdir =
    record { arguments = diropargs; says = λ v. calls.Rmdir v.0 v.1; results = status }
procedure_of procedures.Readdir =
    record {
      arguments = readdirargs;
      says = λ v. calls.Readdir v.0 (big_number 4 v.1.0) v.1.1;
      results = readdirres;
    }
procedure_of procedures.Statfs = record { arguments = fhandle; says = calls.Statfs; results = statfsres }

-- the procedures by their numbers, from 0 to 17
abbrev pub numbered : List NfsProcedure
numbered =
    procedures.Null ∷ procedures.Getattr ∷ procedures.Setattr ∷ procedures.Root
    ∷ procedures.Lookup ∷ procedures.Readlink ∷ procedures.Read ∷ procedures.Writecache
    ∷ procedures.Write ∷ procedures.Create ∷ procedures.Remove ∷ procedures.Rename
    ∷ procedures.Link ∷ procedures.Symlink ∷ procedures.Mkdir ∷ procedures.Rmdir
    ∷ procedures.Readdir ∷ procedures.Statfs ∷ []

-- the procedure of a call
abbrev pub procedure_in : Call → NfsProcedure
procedure_in calls.Null = procedures.Null
procedure_in (calls.Getattr file) = procedures.Getattr
procedure_in (calls.Setattr file attributes) = procedures.Setattr
procedure_in calls.Root = procedures.Root
procedure_in (calls.Lookup dir name) = procedures.Lookup
procedure_in (calls.Readlink file) = procedures.Readlink
procedure_in (calls.Read file offset count) = procedures.Read
procedure_in calls.Writecache = procedures.Writecache
procedure_in (calls.Write file offset new) = procedures.Write
procedure_in (calls.Create dir name attributes) = procedures.Create
procedure_in (calls.Remove dir name) = procedures.Remove
procedure_in (calls.Rename from from_name to to_name) = procedures.Rename
procedure_in (calls.Link file dir name) = procedures.Link
procedure_in (calls.Symlink dir name target attributes) = procedures.Symlink
procedure_in (calls.Mkdir dir name attributes) = procedures.Mkdir
procedure_in (calls.Rmdir dir name) = procedures.Rmdir
procedure_in (calls.Readdir dir cookie count) = procedures.Readdir
procedure_in (calls.Statfs file) = procedures.Statfs

-- ---- results

-- an entry of READDIR as a value of its item
abbrev pub entry_value : PageEntry → Value entry
entry_value e = (e.fileid, (e.name, big_bytes 4 e.cookie))

-- what STATFS gives as a value of its item
abbrev pub fs_stats_value : FsStats → Value fs_stats
fs_stats_value f = (f.transfer_size, (f.block_size, (f.blocks, (f.free, f.available))))

-- the item of an answer
abbrev pub answer_item : Answer → Item
answer_item calls.Nothing = empty
answer_item (calls.Attributes r) = attrstat
answer_item (calls.DirOp r) = diropres
answer_item (calls.Target r) = readlinkres
answer_item (calls.Bytes r) = readres
answer_item (calls.Status r) = status
answer_item (calls.Entries r) = readdirres
answer_item (calls.Free r) = statfsres

-- an answer as a value of its item
abbrev pub answer_value : (a : Answer) → Value (answer_item a)
answer_value calls.Nothing = tt
answer_value (calls.Attributes r) = outcome_value fattr fattr_value r
answer_value (calls.DirOp r) = outcome_value (pair fhandle fattr) (λ x. (x.0, fattr_value x.1)) r
answer_value (calls.Target r) = outcome_value path (λ target. target) r
answer_value (calls.Bytes r) = outcome_value (pair fattr nfsdata) (λ x. (fattr_value x.0, x.1)) r
answer_value (calls.Status r) = outcome_value empty (λ x. x) r
answer_value (calls.Entries r) =
    outcome_value (pair (linked entry) flag) (λ p. (map entry_value p.entries, p.eof)) r
answer_value (calls.Free r) = outcome_value fs_stats fs_stats_value r

-- ---- the program

-- NFS version 2 as a remote program
abbrev pub nfs_program : Program NfsProcedure Call Answer
nfs_program = record {
  numbered = numbered;
  procedure_of = procedure_of;
  procedure_in = procedure_in;
  answer_item = answer_item;
  answer_value = answer_value;
}

-- the procedure of a number
abbrev pub procedure_at : ℕ → Option NfsProcedure
procedure_at n = programs.procedure_at nfs_program n

-- the call that the bytes after a procedure's header say
abbrev pub call_at : NfsProcedure → List ℕ → Read Call
call_at procedure bytes = programs.call_at nfs_program procedure bytes

-- The spelling of arguments that say a call stands at the front, and the rest after it. Words that mean
-- nothing may be any.
abbrev pub SaysCall : NfsProcedure → List ℕ → Call → List ℕ → Type 0
SaysCall procedure bytes call rest = programs.SaysCall nfs_program procedure bytes call rest

-- the one spelling of an answer
abbrev pub answer_text : Answer → List ℕ
answer_text a = programs.answer_text nfs_program a

-- the cookies that an answer gives
abbrev pub cookies_in : Answer → List ℕ
cookies_in (calls.Entries (Ok p)) = map (λ e. e.cookie) p.entries
cookies_in _ = []

-- An answer has a spelling: its value fits, and so does each cookie in four bytes.
pub record IsSpelled (a : Answer) : Type 0 where
  pub fits : Fits (answer_item a) (answer_value a)
  pub cookies : AllByRecursion (λ c. c < 2 ^ 32) (cookies_in a)

-- an answer of a procedure's results
abbrev pub IsAnswerTo : NfsProcedure → Answer → Type 0
IsAnswerTo procedures.Null calls.Nothing = Unit {0}
IsAnswerTo procedures.Getattr (calls.Attributes r) = Unit {0}
IsAnswerTo procedures.Setattr (calls.Attributes r) = Unit {0}
IsAnswerTo procedures.Root calls.Nothing = Unit {0}
IsAnswerTo procedures.Lookup (calls.DirOp r) = Unit {0}
IsAnswerTo procedures.Readlink (calls.Target r) = Unit {0}
IsAnswerTo procedures.Read (calls.Bytes r) = Unit {0}
IsAnswerTo procedures.Writecache calls.Nothing = Unit {0}
IsAnswerTo procedures.Write (calls.Attributes r) = Unit {0}
IsAnswerTo procedures.Create (calls.DirOp r) = Unit {0}
IsAnswerTo procedures.Remove (calls.Status r) = Unit {0}
IsAnswerTo procedures.Rename (calls.Status r) = Unit {0}
IsAnswerTo procedures.Link (calls.Status r) = Unit {0}
IsAnswerTo procedures.Symlink (calls.Status r) = Unit {0}
IsAnswerTo procedures.Mkdir (calls.DirOp r) = Unit {0}
IsAnswerTo procedures.Rmdir (calls.Status r) = Unit {0}
IsAnswerTo procedures.Readdir (calls.Entries r) = Unit {0}
IsAnswerTo procedures.Statfs (calls.Free r) = Unit {0}
IsAnswerTo _ _ = ⊥
