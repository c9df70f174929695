-- A call is answered by an answer of its procedure.
-- Serves: `laws::calls_are_answered_by_their_procedures`.
use Rattle.std.proofs.Common.{Result, Ok, Err}
use Rattle.fs_spec.specs.nfs_items.Timeval.{Timeval}
use Rattle.fs_spec.specs.nfs_items.Caller.{Caller}
use Rattle.fs_spec.specs.nfs_items.declared.stat.Stat.{Stat}
use Rattle.nfs_types.specs.declared.arguments.NfsProcedure.{NfsProcedure}
use Rattle.nfs_types.specs.declared.arguments.NfsProcedure.TheVariants as procedures
use Rattle.nfs_types.specs.Calls as calls
use Rattle.nfs_types.specs.Calls.{Call, Answer}
use Rattle.nfs_types.specs.Texts.{procedure_in, IsAnswerTo}
use Rattle.fs_spec.specs.Files.{Files}
use Rattle.nfs_spec.specs.Changes.{Effect}
use Rattle.nfs_spec.specs.NfsCalls.{answer_and_files, call_does}

-- an effect is answered as its outcome is said
effect_answered : {A : Type 0} (procedure : NfsProcedure) (say : Result A Stat → Answer)
    → ((r : Result A Stat) → IsAnswerTo procedure (say r))
    → (fs : Files) (e : Effect A) → IsAnswerTo procedure (answer_and_files say fs e).0
effect_answered procedure say says fs (Ok x) = says (Ok x.0)
effect_answered procedure say says fs (Err e) = says (Err e)

-- each call's answer is of its procedure
pub call_answered : (fs : Files) (who : Caller) (now : Timeval) (call : Call)
    → IsAnswerTo (procedure_in call) (call_does fs who now call).0
call_answered fs who now calls.Null = tt
call_answered fs who now (calls.Getattr file) = tt
call_answered fs who now (calls.Setattr file s) =
    effect_answered procedures.Setattr calls.Attributes (λ r. tt) fs _
call_answered fs who now calls.Root = tt
call_answered fs who now (calls.Lookup dir name) = tt
call_answered fs who now (calls.Readlink file) = tt
call_answered fs who now (calls.Read file offset count) = tt
call_answered fs who now calls.Writecache = tt
call_answered fs who now (calls.Write file offset new) =
    effect_answered procedures.Write calls.Attributes (λ r. tt) fs _
call_answered fs who now (calls.Create dir name s) =
    effect_answered procedures.Create calls.DirOp (λ r. tt) fs _
call_answered fs who now (calls.Remove dir name) =
    effect_answered procedures.Remove calls.Status (λ r. tt) fs _
call_answered fs who now (calls.Rename from from_name to to_name) =
    effect_answered procedures.Rename calls.Status (λ r. tt) fs _
call_answered fs who now (calls.Link from dir name) =
    effect_answered procedures.Link calls.Status (λ r. tt) fs _
call_answered fs who now (calls.Symlink dir name target s) =
    effect_answered procedures.Symlink calls.Status (λ r. tt) fs _
call_answered fs who now (calls.Mkdir dir name s) =
    effect_answered procedures.Mkdir calls.DirOp (λ r. tt) fs _
call_answered fs who now (calls.Rmdir dir name) = effect_answered procedures.Rmdir calls.Status (λ r. tt) fs _
call_answered fs who now (calls.Readdir dir cookie count) = tt
call_answered fs who now (calls.Statfs file) = tt
