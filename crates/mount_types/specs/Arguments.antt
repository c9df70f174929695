-- What the program's arguments say.
use Rattle.std.specs.Prelude.{List, ℕ, Result}
use Rattle.nfs_items.specs.xdr.declared.fault.XdrFault.{XdrFault}
use Rattle.nfs_items.specs.Programs as programs
use Rattle.mount_types.specs.declared.arguments.MountProcedure.{MountProcedure}
use Rattle.mount_types.specs.declared.arguments.MountArgs.{MountArgs}
use Rattle.mount_types.specs.declared.arguments.MountArgs.TheVariants as code
use Rattle.mount_types.specs.Calls as calls
use Rattle.mount_types.specs.Calls.{MountCall}
use Rattle.mount_types.specs.Texts.{mount_program}

-- the call that a value of the program is
abbrev pub call_of : MountArgs → MountCall
call_of code.Null = calls.Null
call_of (code.Mnt path) = calls.Mnt path.now
call_of code.Dump = calls.Dump
call_of (code.Umnt path) = calls.Umnt path.now
call_of code.Umntall = calls.Umntall
call_of code.Export = calls.Export

-- A reader gave what reading gives: the arguments and the bytes after them, or the first fault.
abbrev pub GivesCall : MountProcedure → List ℕ → Result MountArgs XdrFault → List ℕ → Type 0
GivesCall procedure old result new = programs.GivesCall mount_program call_of procedure old result new

-- The same where what follows the arguments is ignored.
abbrev pub ReadsCall : MountProcedure → List ℕ → Result MountArgs XdrFault → Type 0
ReadsCall procedure bytes result = programs.ReadsCall mount_program call_of procedure bytes result
