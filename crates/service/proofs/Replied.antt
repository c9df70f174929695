-- What was made of a call that was read is the reply owed, and leaves the world after it.
-- Serves: `Service::answer_into`, and `answer` by it.
use Rattle.std.proofs.Common.{◌≡◌, ℕ, Bool, true, false, List, [], ◌++◌, Result, Ok, Err, refl, ap, subst}
use Rattle.std.proofs.Common.{◌∙◌}
use Rattle.std.specs.Prelude.{Option, Some, None}
use Rattle.server_spec.specs.Owed.{IsReplied}
use Rattle.xdr.specs.Reading.{Read}
use Rattle.rpc.specs.Call.{Message, message_at}
use Rattle.rpc.specs.CallValues.{IsCallOf, GivesCall}
use Rattle.rpc.specs.declared.call.Call.{Call}
use Rattle.rpc.specs.declared.call.CallFault.{CallFault}
use Rattle.nfs_procs.specs.nfs_items.Timeval.{Timeval}
use Rattle.server_spec.specs.World.{World, at_time}
use Rattle.server_spec.specs.Replies.{reply_to, reply_of_call, world_after_call, reply_owed, world_after}

of_call : (w : World) (call : Call) (old new : List ℕ) (after : World) (read : Read Message)
    → GivesCall (Ok call) read
    → ((m : Message) (rest : List ℕ) → IsCallOf call m rest → new ≡ old ++ (reply_to w m rest).0)
    → ((m : Message) (rest : List ℕ) → IsCallOf call m rest → after ≡ (reply_to w m rest).1)
    → IsReplied true (reply_of_call w read) old new × (after ≡ world_after_call w read)
of_call w call old new after (Ok x) given t f = (t x.0 x.1 given, f x.0 x.1 given)
of_call w call old new after (Err e) given t f = absurd given

of_fault : (w : World) (fault : CallFault) (old : List ℕ) (read : Read Message) → GivesCall (Err fault) read
    → IsReplied false (reply_of_call w read) old old × (w ≡ world_after_call w read)
of_fault w fault old (Ok x) given = absurd given
of_fault w fault old (Err e) given = (refl, refl)

module _ (w : World) (time : Timeval) (bytes : List ℕ) where
  -- a call that was read is owed what was made of it
  pub call_replied : (r : Result Call CallFault) → GivesCall r (message_at bytes)
      → (call : Call) (old new : List ℕ) (after : World) → r ≡ Ok call
      → (now : World) → now ≡ at_time w time
      → ((m : Message) (rest : List ℕ) → IsCallOf call m rest → new ≡ old ++ (reply_to now m rest).0)
      → ((m : Message) (rest : List ℕ) → IsCallOf call m rest → after ≡ (reply_to now m rest).1)
      → IsReplied true (reply_owed w time bytes) old new × (after ≡ world_after w time bytes)
  unfolding reply_owed world_after
  call_replied r given call old new after e now is t f =
      of_call (at_time w time) call old new after (message_at bytes)
      (subst (λ x. GivesCall x (message_at bytes)) e given)
      (λ m rest of. t m rest of ∙ ap (λ (v : World). old ++ (reply_to v m rest).0) is)
      (λ m rest of. f m rest of ∙ ap (λ (v : World). (reply_to v m rest).1) is)

  -- where no call was read, no reply is owed, and the clock alone moves
  pub fault_replied : (r : Result Call CallFault) → GivesCall r (message_at bytes) → (fault : CallFault)
      → r ≡ Err fault → (old : List ℕ)
      → IsReplied false (reply_owed w time bytes) old old × (at_time w time ≡ world_after w time bytes)
  unfolding reply_owed world_after
  fault_replied r given fault e old =
      of_fault (at_time w time) fault old (message_at bytes)
      (subst (λ x. GivesCall x (message_at bytes)) e given)

-- the reply that is owed, put after nothing
pub is_the_reply : (owed : Option (List ℕ)) (new : List ℕ) → IsReplied true owed [] new → Some new ≡ owed
is_the_reply (Some text) new e = ap (λ (t : List ℕ). Some t) e
is_the_reply None new never = absurd never

-- none is owed
pub is_silence : (owed : Option (List ℕ)) (old new : List ℕ) → IsReplied false owed old new → None ≡ owed
is_silence (Some text) old new never = absurd never
is_silence None old new e = refl
