-- The reply owed to a record at a time, and the world after it (RFC 5531, section 9; RFC 1094, section 2.2).
use Rattle.std.specs.Prelude.{◌≡◌, ℕ, ◌==◌, Bool, true, false, List, ◌++◌, Option, Some, None, Result, Ok}
use Rattle.std.specs.Prelude.{Err, if◌then◌else◌}
use Rattle.xdr.specs.Reading.{Read}
use Rattle.rpc.specs.Call.{CallHeader, Message, OtherVersion, Version2, message_at, Says}
use Rattle.rpc.specs.Reply.{reply_text}
use Rattle.rpc.specs.declared.reply.ReplyBody.{ReplyBody}
use Rattle.rpc.specs.declared.reply.ReplyBody.TheVariants as bodies
use Rattle.rpc.specs.declared.reply.AuthStat.TheVariants as auth
use Rattle.mount_types.specs.nfs_items.Timeval.{Timeval}
use Rattle.mount_types.specs.nfs_items.Caller.{Caller, nobody}
use Rattle.mount_types.specs.nfs_items.Credentials.{caller_in}
use Rattle.nfs_types.specs.Calls.{Call}
use Rattle.nfs_types.specs.Texts.{procedure_at, call_at, answer_text}
use Rattle.nfs_laws.specs.nfs_spec.NfsCalls.{call_does}
use Rattle.mount_types.specs.Calls.{MountCall}
use Rattle.mount_types.specs.Texts as mount_texts
use Rattle.mount_types.specs.declared.arguments.MountProcedure.{MountProcedure}
use Rattle.mount_types.specs.declared.arguments.MountProcedure.TheVariants as mount_procedures
use Rattle.server_spec.specs.MountCalls.{mount_does}
use Rattle.server_spec.specs.declared.programs.TheConstants.{AUTH_NONE, AUTH_SYS, NFS_PROGRAM, NFS_VERSION}
use Rattle.server_spec.specs.declared.programs.TheConstants.{MOUNT_PROGRAM, MOUNT_VERSION}
use Rattle.rpc.specs.declared.call.TheConstants.{RPC_VERSION}
use Rattle.server_spec.specs.World.{World, at_time}

-- ---- the checks of a call, in their order: the first that fails gives the reply's body

-- what a check gives, or the body of the reply that refuses the call
abbrev pub OrRefusal : Type 0 → Type 0
OrRefusal A = Result A ReplyBody

-- a step, and the next one where it wasn't refused
infixl 10 ◌>>=◌
abbrev pub ◌>>=◌ : {A B : Type 0} → OrRefusal A → (A → OrRefusal B) → OrRefusal B
(Ok x) >>= f = f x
(Err e) >>= f = Err e

-- AUTH_BADCRED where the body of an AUTH_SYS credential says no caller
abbrev pub caller_or_refusal : Option Caller → OrRefusal Caller
caller_or_refusal None = Err (bodies.AuthError auth.BadCredential)
caller_or_refusal (Some who) = Ok who

-- the credential: AUTH_NONE, whatever its body; AUTH_SYS by its body; every other flavor is rejected
abbrev pub caller_at : ℕ → List ℕ → OrRefusal Caller
caller_at flavor body =
    if flavor == AUTH_NONE then Ok nobody
    else if flavor == AUTH_SYS then caller_or_refusal (caller_in body)
    else Err (bodies.AuthError auth.RejectedCredential)

-- a call of a program that is served
pub data ServedCall : Type 0 where
  Nfs : Call → ServedCall
  Mount : MountCall → ServedCall

-- PROG_MISMATCH where a program's version isn't the one that is served
abbrev pub version_served : ℕ → ℕ → OrRefusal (Unit {0})
version_served served version =
    if version == served then Ok tt else Err (bodies.ProgramMismatch served served)

-- PROC_UNAVAIL where a number has no procedure
abbrev pub procedure_or_refusal : {P : Type 0} → Option P → OrRefusal P
procedure_or_refusal None = Err bodies.ProcedureUnavailable
procedure_or_refusal (Some p) = Ok p

-- GARBAGE_ARGS where the arguments can't be read
abbrev pub arguments_or_refusal : {C : Type 0} → Read C → OrRefusal C
arguments_or_refusal (Ok x) = Ok x.0
arguments_or_refusal (Err e) = Err bodies.GarbageArguments

-- the procedures of MOUNT that add or take out what is mounted by the caller's machine,
-- which AUTH_SYS alone names
abbrev pub wants_machine : MountProcedure → Bool
wants_machine mount_procedures.Null = false
wants_machine mount_procedures.Mnt = true
wants_machine mount_procedures.Dump = false
wants_machine mount_procedures.Umnt = true
wants_machine mount_procedures.Umntall = true
wants_machine mount_procedures.Export = false

-- AUTH_TOOWEAK where such a procedure is called with another flavor
abbrev pub machine_or_refusal : MountProcedure → ℕ → OrRefusal (Unit {0})
machine_or_refusal procedure flavor =
    if wants_machine procedure
    then (if flavor == AUTH_SYS then Ok tt else Err (bodies.AuthError auth.TooWeak))
    else Ok tt

-- a call of NFS version 2
abbrev pub nfs_call_or_refusal : CallHeader → List ℕ → OrRefusal ServedCall
nfs_call_or_refusal h arguments = do
  served ← version_served NFS_VERSION h.version
  procedure ← procedure_or_refusal (procedure_at h.procedure)
  call ← arguments_or_refusal (call_at procedure arguments)
  Ok (Nfs call)

-- a call of MOUNT version 1
abbrev pub mount_call_or_refusal : CallHeader → List ℕ → OrRefusal ServedCall
mount_call_or_refusal h arguments = do
  served ← version_served MOUNT_VERSION h.version
  procedure ← procedure_or_refusal (mount_texts.procedure_at h.procedure)
  known ← machine_or_refusal procedure h.credential.flavor
  call ← arguments_or_refusal (mount_texts.call_at procedure arguments)
  Ok (Mount call)

-- the program's call; PROG_UNAVAIL where it is neither NFS nor MOUNT
abbrev pub program_call_or_refusal : CallHeader → List ℕ → OrRefusal ServedCall
program_call_or_refusal h arguments =
    if h.program == NFS_PROGRAM then nfs_call_or_refusal h arguments
    else if h.program == MOUNT_PROGRAM then mount_call_or_refusal h arguments
    else Err bodies.ProgramUnavailable

-- the caller, and the procedure with its arguments
abbrev pub call_or_refusal : CallHeader → List ℕ → OrRefusal (Caller × ServedCall)
call_or_refusal h arguments = do
  who ← caller_at h.credential.flavor h.credential.body
  call ← program_call_or_refusal h arguments
  Ok (who, call)

-- ---- the reply, and the world after it

-- a reply's text, with a body and nothing after it
abbrev pub bare_reply : ℕ → ReplyBody → List ℕ
bare_reply xid body = reply_text (record { xid = xid; body = body })

-- what a call does: the text of its results, and the world after it. NFS changes the files alone,
-- MOUNT the mounts.
abbrev pub call_results : World → Caller → ServedCall → List ℕ × World
call_results w who (Nfs call) =
    let done = call_does w.files who w.clock call in (answer_text done.0, record w { files = done.1 })
call_results w who (Mount call) =
    let done = mount_does w.files w.mounts who call in
    (mount_texts.answer_text done.0, record w { mounts = done.1 })

-- the reply to a call, and the world after it: a refusal, or the results of what was done
abbrev pub call_reply : World → ℕ → OrRefusal (Caller × ServedCall) → List ℕ × World
call_reply w xid (Err body) = (bare_reply xid body, w)
call_reply w xid (Ok (who, call)) =
    let done = call_results w who call in (bare_reply xid bodies.Success ++ done.0, done.1)

-- RPC versions other than 2 are refused; a call of version 2 is checked, and done if no check fails. The
-- world is the one whose clock the call uses.
abbrev pub reply_to : World → Message → List ℕ → List ℕ × World
reply_to w (OtherVersion xid version) arguments =
    (bare_reply xid (bodies.RpcMismatch RPC_VERSION RPC_VERSION), w)
reply_to w (Version2 xid h) arguments = call_reply w xid (call_or_refusal h arguments)

-- The reply r that is owed to a record at a time, if one is, and the world w' after it. What says no call
-- gets none.
pub data Answers (w : World) (time : Timeval) (bytes : List ℕ) (w' : World) (r : Option (List ℕ))
    : Type 0 where
  silence : ((m : Message) (rest : List ℕ) → Says bytes m rest → ⊥) → w' ≡ at_time w time → r ≡ None
      → Answers w time bytes w' r
  reply : (m : Message) (rest : List ℕ) → Says bytes m rest
      → w' ≡ (reply_to (at_time w time) m rest).1
      → r ≡ Some (reply_to (at_time w time) m rest).0 → Answers w time bytes w' r

-- ---- the same as functions

-- the reply to a call that was read, or none where none can be read
abbrev pub reply_of_call : World → Read Message → Option (List ℕ)
reply_of_call w (Err e) = None
reply_of_call w (Ok x) = Some (reply_to w x.0 x.1).0

-- the world after a call that was read; the same where none was
abbrev pub world_after_call : World → Read Message → World
world_after_call w (Err e) = w
world_after_call w (Ok x) = (reply_to w x.0 x.1).1

-- the reply owed to a record at a time
unfoldable pub reply_owed : World → Timeval → List ℕ → Option (List ℕ)
reply_owed w time bytes = reply_of_call (at_time w time) (message_at bytes)

-- the world after it
unfoldable pub world_after : World → Timeval → List ℕ → World
world_after w time bytes = world_after_call (at_time w time) (message_at bytes)
