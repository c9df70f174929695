-- A server keeps its number, whatever it answers.
-- Serves: State::read_clock.
use Rattle.std.proofs.Common.{◌≡◌, ℕ, List, Result, Ok, Err, refl, sym, subst, ◌∙◌}
use Rattle.std.specs.Prelude.{OnOk, OnErr}
use Rattle.xdr.specs.Reading.{Read}
use Rattle.service.specs.rpc.Call.{Message, OtherVersion, Version2, message_at}
use Rattle.service.specs.nfs_items.Timeval.{Timeval}
use Rattle.service.specs.nfs_items.Caller.{Caller}
use Rattle.service.proofs.nfs_laws.OfFrames.UnnamedFiles.{heads}
use Rattle.state_spec.specs.server_spec.World.{World, at_time}
use Rattle.state_spec.specs.server_spec.Replies.{ServedCall, Nfs, Mount, OrRefusal, call_or_refusal, call_results}
use Rattle.state_spec.specs.server_spec.Replies.{call_reply, reply_to, world_after_call, world_after}
use Rattle.state_spec.specs.State.{Idle, Heard, Owes, Machine, Server, Client}
use Rattle.state_machine.specs.Machines.{IsOf}
use Rattle.state_spec.specs.Steps.{after_reading}

after_results : (w : World) (who : Caller) (call : ServedCall) → (call_results w who call).1.files.fsid
    ≡ w.files.fsid
after_results w who (Nfs call) = (heads w.files who w.clock call).node
after_results w who (Mount call) = refl

after_reply : (w : World) (xid : ℕ) (o : OrRefusal (Caller × ServedCall))
    → (call_reply w xid o).1.files.fsid ≡ w.files.fsid
after_reply w xid (Err body) = refl
after_reply w xid (Ok x) = after_results w x.0 x.1

after_message : (w : World) (m : Message) (rest : List ℕ) → (reply_to w m rest).1.files.fsid ≡ w.files.fsid
after_message w (OtherVersion xid version) rest = refl
after_message w (Version2 xid h) rest = after_reply w xid (call_or_refusal h rest)

after_call : (w : World) (r : Read Message) → (world_after_call w r).files.fsid ≡ w.files.fsid
after_call w (Err e) = refl
after_call w (Ok x) = after_message w x.0 x.1

-- the world after a record is of the same server
pub after_record : (w : World) (time : Timeval) (bytes : List ℕ) → (world_after w time bytes).files.fsid
    ≡ w.files.fsid
unfolding world_after
after_record w time bytes = after_call (at_time w time) (message_at bytes)

-- a machine after a clock reading is of the same node
pub same_node : (node : ℕ) (m : Machine) (time : Timeval) → IsOf node m → IsOf node (after_reading m time)
same_node node (Server w Idle) time own = own
same_node node (Server w (Heard from body)) time own = after_record w time body ∙ own
same_node node (Server w (Owes to body)) time own = own
same_node node (Client clock) time own = tt

-- and so is one after a reading that was tried
pub same_node_either : {E : Type 0} (node : ℕ) (m n : Machine) (time : Timeval) (r : Result (Unit {0}) E)
    → OnOk r (n ≡ after_reading m time) → OnErr r (n ≡ m) → IsOf node m → IsOf node n
same_node_either node m n time (Ok x) ok err own = subst (IsOf node) (sym ok) (same_node node m time own)
same_node_either node m n time (Err e) ok err own = subst (IsOf node) (sym err) own
