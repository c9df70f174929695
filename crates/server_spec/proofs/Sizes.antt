-- A reply fits a record: its header and the longest answer do.
-- Serves: `Service::answer`.
use Rattle.std.proofs.Common.{◌≡◌, ℕ, ◌≤◌, List, length, Ok, Err, arith, length-append, lit≤}
use Rattle.std.specs.Prelude.{Option, Some, None, IfSome, option_map}
use Rattle.xdr.specs.Reading.{Read}
use Rattle.xdr.proofs.Front.{length-number_spelling}
use Rattle.rpc.specs.declared.records.record.TheConstants.{MAX_RECORD}
use Rattle.rpc.specs.Call.{Message, OtherVersion, Version2, message_at}
use Rattle.rpc.specs.Reply.{reply_text}
use Rattle.rpc.specs.declared.reply.ReplyBody.{ReplyBody}
use Rattle.rpc.specs.declared.reply.ReplyBody.TheVariants as bodies
use Rattle.mount_types.specs.nfs_items.Timeval.{Timeval}
use Rattle.mount_types.specs.nfs_items.Caller.{Caller}
use Rattle.nfs_laws.specs.fs_spec.Trees.{IsFileTree}
use Rattle.nfs_laws.proofs.OfSizes.Lengths.{answer_length}
use Rattle.mount_types.specs.Mounts.{AreMounts}
use Rattle.server_spec.specs.World.{World, at_time}
use Rattle.server_spec.proofs.MountSizes.{answer_is_short}
use Rattle.server_spec.specs.Replies.{OrRefusal, ServedCall, Nfs, Mount, call_or_refusal, call_results}
use Rattle.server_spec.specs.Replies.{call_reply, reply_to, reply_of_call, reply_owed}

body_length : (xid : ℕ) (body : ReplyBody) → length (reply_text (record { xid = xid; body = body })) ≤ 36
body_length xid bodies.Success = simp (length-append, length-number_spelling) (lit≤ tt)
body_length xid bodies.ProgramUnavailable = simp (length-append, length-number_spelling) (lit≤ tt)
body_length xid (bodies.ProgramMismatch low high) = simp (length-append, length-number_spelling) (lit≤ tt)
body_length xid bodies.ProcedureUnavailable = simp (length-append, length-number_spelling) (lit≤ tt)
body_length xid bodies.GarbageArguments = simp (length-append, length-number_spelling) (lit≤ tt)
body_length xid bodies.SystemError = simp (length-append, length-number_spelling) (lit≤ tt)
body_length xid (bodies.RpcMismatch low high) = simp (length-append, length-number_spelling) (lit≤ tt)
body_length xid (bodies.AuthError stat) = simp (length-append, length-number_spelling) (lit≤ tt)

results_length : (w : World) → IsFileTree w.files → AreMounts w.mounts → (who : Caller) (call : ServedCall)
    → length (call_results w who call).0 ≤ 12252
results_length w tree mounts who (Nfs call) = omega (arith, answer_length w.files who w.clock tree call)
results_length w tree mounts who (Mount call) =
    omega (arith, answer_is_short w.files w.mounts who call mounts)

call_reply_length : (w : World) → IsFileTree w.files → AreMounts w.mounts
    → (xid : ℕ) (c : OrRefusal (Caller × ServedCall)) → length (call_reply w xid c).0 ≤ MAX_RECORD
call_reply_length w tree mounts xid (Err body) = omega (arith, body_length xid body)
call_reply_length w tree mounts xid (Ok (who, call)) =
    omega (
      arith,
      length-append (reply_text (record { xid = xid; body = bodies.Success }))
          (call_results w who call).0,
      body_length xid bodies.Success,
      results_length w tree mounts who call,
    )

reply_length : (w : World) → IsFileTree w.files → AreMounts w.mounts → (m : Message) (arguments : List ℕ)
    → length (reply_to w m arguments).0 ≤ MAX_RECORD
reply_length w tree mounts (OtherVersion xid version) arguments =
    omega (arith, body_length xid (bodies.RpcMismatch 2 2))
reply_length w tree mounts (Version2 xid h) arguments =
    call_reply_length w tree mounts xid (call_or_refusal h arguments)

call_length : (w : World) → IsFileTree w.files → AreMounts w.mounts → (read : Read Message)
    → IfSome (reply_of_call w read) (λ text. length text ≤ MAX_RECORD)
call_length w tree mounts (Ok x) = reply_length w tree mounts x.0 x.1
call_length w tree mounts (Err e) = tt

-- what is owed has at most MAX_RECORD bytes
pub fits_a_record : (w : World) → IsFileTree w.files → AreMounts w.mounts → (time : Timeval) (bytes : List ℕ)
    → IfSome (reply_owed w time bytes) (λ text. length text ≤ MAX_RECORD)
unfolding reply_owed
fits_a_record w tree mounts time bytes = call_length (at_time w time) tree mounts (message_at bytes)

-- and so has what was made, where it is what is owed
pub mapped_fits : {X : Type 0} (text : X → List ℕ) (r : Option X) (owed : Option (List ℕ))
    → option_map text r ≡ owed → IfSome owed (λ t. length t ≤ MAX_RECORD)
    → IfSome r (λ v. length (text v) ≤ MAX_RECORD)
mapped_fits text None owed e h = tt
mapped_fits text (Some v) owed e h = rw (← e) at h
