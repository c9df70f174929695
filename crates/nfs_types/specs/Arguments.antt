-- What the program's arguments say.
use Rattle.std.specs.Prelude.{List, ℕ, Result}
use Rattle.nfs_items.specs.xdr.declared.fault.XdrFault.{XdrFault}
use Rattle.nfs_items.specs.xdr.Item.{Value}
use Rattle.nfs_items.specs.Programs as programs
use Rattle.nfs_types.specs.declared.arguments.NfsProcedure.{NfsProcedure}
use Rattle.nfs_types.specs.declared.arguments.DirOpArgs.{DirOpArgs}
use Rattle.nfs_types.specs.declared.arguments.NfsArgs.{NfsArgs}
use Rattle.nfs_types.specs.declared.arguments.NfsArgs.TheVariants as code
use Rattle.nfs_types.specs.Items.{diropargs}
use Rattle.nfs_types.specs.Calls as calls
use Rattle.nfs_types.specs.Calls.{Call}
use Rattle.nfs_types.specs.Texts.{nfs_program}

-- a directory's handle and a name, as a value of that item
abbrev pub diropargs_value : DirOpArgs → Value diropargs
diropargs_value a = (a.dir.0.now, a.name.now)

-- the call that a value of the program is
abbrev pub call_of : NfsArgs → Call
call_of code.Null = calls.Null
call_of (code.Getattr file) = calls.Getattr file.0.now
call_of (code.Setattr file attributes) = calls.Setattr file.0.now attributes
call_of code.Root = calls.Root
call_of (code.Lookup a) = calls.Lookup a.dir.0.now a.name.now
call_of (code.Readlink file) = calls.Readlink file.0.now
call_of (code.Read file offset count) = calls.Read file.0.now offset count
call_of code.Writecache = calls.Writecache
call_of (code.Write file offset new) = calls.Write file.0.now offset new.now
call_of (code.Create a attributes) = calls.Create a.dir.0.now a.name.now attributes
call_of (code.Remove a) = calls.Remove a.dir.0.now a.name.now
call_of (code.Rename from to) = calls.Rename from.dir.0.now from.name.now to.dir.0.now to.name.now
call_of (code.Link from to) = calls.Link from.0.now to.dir.0.now to.name.now
call_of (code.Symlink a target attributes) = calls.Symlink a.dir.0.now a.name.now target.now attributes
call_of (code.Mkdir a attributes) = calls.Mkdir a.dir.0.now a.name.now attributes
call_of (code.Rmdir a) = calls.Rmdir a.dir.0.now a.name.now
call_of (code.Readdir dir cookie count) = calls.Readdir dir.0.now cookie count
call_of (code.Statfs file) = calls.Statfs file.0.now

-- A reader gave what reading gives: the arguments and the bytes after them, or the first fault.
abbrev pub GivesCall : NfsProcedure → List ℕ → Result NfsArgs XdrFault → List ℕ → Type 0
GivesCall procedure old result new = programs.GivesCall nfs_program call_of procedure old result new

-- The same where what follows the arguments is ignored.
abbrev pub ReadsCall : NfsProcedure → List ℕ → Result NfsArgs XdrFault → Type 0
ReadsCall procedure bytes result = programs.ReadsCall nfs_program call_of procedure bytes result
