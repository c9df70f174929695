-- What bytes say of a call, and the bytes of its answer (RFC 1094, appendix A.5).
use Rattle.std.specs.Prelude.{ℕ, List, [], ◌∷◌, Option}
use Rattle.nfs_items.specs.xdr.Item.{Item, empty, Value}
use Rattle.nfs_items.specs.xdr.Reading.{Read}
use Rattle.nfs_items.specs.Programs as programs
use Rattle.nfs_items.specs.Programs.{Procedure, Program}
use Rattle.nfs_items.specs.Handle.{fhandle}
use Rattle.nfs_items.specs.Attributes.{outcome_value}
use Rattle.mount_types.specs.declared.arguments.MountProcedure.{MountProcedure}
use Rattle.mount_types.specs.declared.arguments.MountProcedure.TheVariants as procedures
use Rattle.mount_types.specs.Calls as calls
use Rattle.mount_types.specs.Calls.{MountCall, MountAnswer}
use Rattle.mount_types.specs.Items.{dirpath, fhstatus, mountlist, exportlist}

-- ---- arguments

-- what a procedure takes and gives (RFC 1094, appendix A.5)
abbrev pub procedure_of : MountProcedure → Procedure MountCall
procedure_of procedures.Null = record { arguments = empty; says = λ v. calls.Null; results = empty }
procedure_of procedures.Mnt = record { arguments = dirpath; says = calls.Mnt; results = fhstatus }
procedure_of procedures.Dump = record { arguments = empty; says = λ v. calls.Dump; results = mountlist }
procedure_of procedures.Umnt = record { arguments = dirpath; says = calls.Umnt; results = empty }
procedure_of procedures.Umntall = record { arguments = empty; says = λ v. calls.Umntall; results = empty }
procedure_of procedures.Export = record { arguments = empty; says = λ v. calls.Export; results = exportlist }

-- the procedures by their numbers, from 0 to 5
abbrev pub numbered : List MountProcedure
numbered =
    procedures.Null ∷ procedures.Mnt ∷ procedures.Dump ∷ procedures.Umnt ∷ procedures.Umntall
    ∷ procedures.Export
    ∷ []

-- the procedure of a call
abbrev pub procedure_in : MountCall → MountProcedure
procedure_in calls.Null = procedures.Null
procedure_in (calls.Mnt path) = procedures.Mnt
procedure_in calls.Dump = procedures.Dump
procedure_in (calls.Umnt path) = procedures.Umnt
procedure_in calls.Umntall = procedures.Umntall
procedure_in calls.Export = procedures.Export

-- ---- results

-- the item of an answer, and its value
abbrev pub answer_item : MountAnswer → Item
answer_item calls.Nothing = empty
answer_item (calls.Mounted r) = fhstatus
answer_item (calls.Mounts mounts) = mountlist
answer_item (calls.Exports exports) = exportlist

-- what is said of an answer
abbrev pub answer_value : (a : MountAnswer) → Value (answer_item a)
answer_value calls.Nothing = tt
answer_value (calls.Mounted r) = outcome_value fhandle (λ handle. handle) r
answer_value (calls.Mounts mounts) = mounts
answer_value (calls.Exports exports) = exports

-- ---- the program

-- MOUNT version 1 as a remote program
abbrev pub mount_program : Program MountProcedure MountCall MountAnswer
mount_program = record {
  numbered = numbered;
  procedure_of = procedure_of;
  procedure_in = procedure_in;
  answer_item = answer_item;
  answer_value = answer_value;
}

-- the procedure of a number
abbrev pub procedure_at : ℕ → Option MountProcedure
procedure_at n = programs.procedure_at mount_program n

-- the call that the bytes after a procedure's header say
abbrev pub call_at : MountProcedure → List ℕ → Read MountCall
call_at procedure bytes = programs.call_at mount_program procedure bytes

-- the spelling of arguments that say a call stands at the front, and the rest after it
abbrev pub SaysCall : MountProcedure → List ℕ → MountCall → List ℕ → Type 0
SaysCall procedure bytes call rest = programs.SaysCall mount_program procedure bytes call rest

-- the one spelling of an answer
abbrev pub answer_text : MountAnswer → List ℕ
answer_text a = programs.answer_text mount_program a

-- an answer of a procedure's results
abbrev pub IsAnswerTo : MountProcedure → MountAnswer → Type 0
IsAnswerTo procedures.Null calls.Nothing = Unit {0}
IsAnswerTo procedures.Mnt (calls.Mounted r) = Unit {0}
IsAnswerTo procedures.Dump (calls.Mounts mounts) = Unit {0}
IsAnswerTo procedures.Umnt calls.Nothing = Unit {0}
IsAnswerTo procedures.Umntall calls.Nothing = Unit {0}
IsAnswerTo procedures.Export (calls.Exports exports) = Unit {0}
IsAnswerTo _ _ = ⊥
