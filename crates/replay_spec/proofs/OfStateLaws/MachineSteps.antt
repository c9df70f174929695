-- What each entry of an honest log keeps of a node's machine: its world stays one that a server can have, and
-- its stage can be spelled.
-- Serves: honest_states_are_spelled.
use Rattle.std.proofs.Common.{ℕ, ◌<◌, ◌≤◌, ◌^◌, List, length, Option, Some, None, refl, arith}
use Rattle.std.specs.Prelude.{IfSome}
use Rattle.nfs_items.specs.Timeval.{Timeval}
use Rattle.nfs_items.specs.xdr.Item.{Fits, opaque, IsBytes}
use Rattle.secure_log.specs.authenticator.declared.member.Member.{Member}
use Rattle.secure_log.specs.declared.log_entries.entry.Entry.{Entry}
use Rattle.secure_log.specs.declared.log_entries.entry.Entry.TheVariants.{Send, Recv, Ack, Clock, Check}
use Rattle.secure_log.specs.declared.log_entries.entry.TheConstants.{MAX_BODY}
use Rattle.secure_log.specs.LogEntries.Entry.{entry_item, entry_value}
use Rattle.state_spec.specs.server_spec.World.{World}
use Rattle.state_spec.specs.server_spec.IsWorld.{IsWorld}
use Rattle.state_spec.specs.server_spec.Replies.{reply_owed, world_after}
use Rattle.state_spec.specs.Limits.{max_body}
use Rattle.state_spec.specs.State.{Idle, Heard, Owes, Machine, Server, Client, State, IsMachine}
use Rattle.state_spec.specs.Steps.{machine_at, owing, after_reading}
use Rattle.replay_spec.specs.Bodies.{HasBytes}
use Rattle.replay_spec.specs.StateLaws.{MachineIsSpelled}
use Rattle.replay_spec.specs.Steps.{MayStand, after_entry, time_of}

-- the body that a server heard is bytes
abbrev pub HearsBytes : Machine → Type 0
HearsBytes (Server w Idle) = Unit {0}
HearsBytes (Server w (Heard from body)) = IsBytes body
HearsBytes (Server w (Owes to body)) = Unit {0}
HearsBytes (Client clock) = Unit {0}

-- what stays of the machine of a node
pub record IsKept (node : ℕ) (m : Machine) : Type 0 where
  -- a node can have it
  pub machine : IsMachine node m
  -- what its world doesn't bound can be spelled
  pub spelled : MachineIsSpelled m
  -- a body that it heard is bytes
  pub heard : HearsBytes m

-- that worlds stay worlds
abbrev pub WorldsStay : Type 0
WorldsStay =
    (node : ℕ) (w : World) (time : Timeval) (bytes : List ℕ) → IsWorld node w → time.microseconds < 1_000_000
    → time.seconds < 2 ^ 32 → IsBytes bytes → IsWorld node (world_after w time bytes)

-- and that replies are no longer than a body may be
abbrev pub RepliesAreShort : Type 0
RepliesAreShort =
    (node : ℕ) (w : World) (time : Timeval) (bytes : List ℕ) → IsWorld node w
    → IfSome (reply_owed w time bytes) (λ text. length text ≤ max_body)

idle : (node : ℕ) (m : Machine) → IsKept node m → IsKept node (machine_at m Idle)
idle node (Server w old) h = record { machine = h.machine; spelled = (omega arith, refl, tt); heard = tt }
idle node (Client clock) h = h

hearing : (node : ℕ) (m : Machine) (from : ℕ) (body : List ℕ) → from < 2 ^ 32 → Fits (opaque MAX_BODY) body
    → IsBytes body → IsKept node m → IsKept node (machine_at m (Heard from body))
hearing node (Server w old) from body word short bytes h =
    record { machine = h.machine; spelled = (omega arith, refl, (word, short)); heard = bytes }
hearing node (Client clock) from body word short bytes h = h

module _ (stays : WorldsStay) (short : RepliesAreShort) where
  reading : (node : ℕ) (m : Machine) (time : Timeval) → time.microseconds < 1_000_000
      → time.seconds < 2 ^ 32 → IsKept node m → IsKept node (after_reading m time)
  reading node (Server w Idle) time is low h = h
  reading node (Server w (Owes to body)) time is low h = h
  reading node (Client clock) time is low h = record { machine = is; spelled = low; heard = tt }
  reading node (Server w (Heard from body)) time is low h =
      by (reply_owed w time body) (short node w time body h.machine)
    where
      by : (reply : Option (List ℕ)) → IfSome reply (λ text. length text ≤ max_body)
          → IsKept node (Server (world_after w time body) (owing from reply))
      by None few = record {
        machine = stays node w time body h.machine is low h.heard;
        spelled = (omega arith, refl, tt);
        heard = tt;
      }
      by (Some reply) few = record {
        machine = stays node w time body h.machine is low h.heard;
        spelled = (omega arith, refl, (h.spelled.2.0, (omega (arith, few), few)));
        heard = tt;
      }

  -- after an entry that may stand there
  pub kept_after : (ms : List Member) (node : ℕ) (s : State) (number : ℕ) (before : List ℕ) (e : Entry)
      → Fits entry_item (entry_value e) → HasBytes e → MayStand ms s e → IsKept node s.machine
      → IsKept node (after_entry s number before e).machine
  kept_after ms node s number before (Send to body) fits bytes stands h = idle node s.machine h
  kept_after ms node s number before (Recv from seq prev body signature) fits bytes stands h =
      hearing node s.machine from body fits.2.0 fits.2.1.1.1.0 bytes h
  kept_after ms node s number before (Ack to seq mine theirs prev signature) fits bytes stands h = h
  kept_after ms node s number before (Clock seconds microseconds) fits bytes stands h =
      reading node s.machine (time_of seconds microseconds) stands.valid fits.2.0 h
  kept_after ms node s number before (Check digest) fits bytes stands h = h
