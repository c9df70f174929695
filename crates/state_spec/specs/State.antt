-- The state of a node's reference machine: what a replay must know of the entries before it.
use Rattle.std.specs.Prelude.{ℕ, Bool, List}
use Rattle.std.specs.Ordering.{nat_cmp, ordering_then}
use Rattle.std.specs.declared.cmp.Ordering.{Ordering}
use Rattle.std.specs.Cmp.Lexicographic.{slice_cmp}
use Rattle.std.specs.FinMap as finite
use Rattle.std.specs.FinSet.{FinSet}
use Rattle.nfs_items.specs.Timeval.{Timeval}
use Rattle.fs_spec.specs.Trees.{IsTime}
use Rattle.server_spec.specs.nfs_spec.Opening.{epoch}
use Rattle.server_spec.specs.World.{World, opening_world}
use Rattle.server_spec.specs.IsWorld.{IsWorld}

-- a message that was received: its sender, its number in the sender's log, and the hash there
pub record ReceivedMessage : Type 0 where
  -- the sender's number
  pub from : ℕ
  -- the message's number in the sender's log
  pub seq : ℕ
  -- the hash of the chain there, 32 bytes
  pub hash : List ℕ

-- by sender, number and hash
abbrev pub received_cmp : ReceivedMessage → ReceivedMessage → Ordering
received_cmp a b =
    ordering_then (nat_cmp a.from b.from)
    (ordering_then (nat_cmp a.seq b.seq) (slice_cmp nat_cmp a.hash b.hash))

-- a message that was sent and has no acknowledgement yet: its receiver, the hash before it in the log, and
-- the digest of its body
pub record SentMessage : Type 0 where
  -- the receiver's number
  pub to : ℕ
  -- the hash of the chain before the message in the sender's own log, 32 bytes
  pub prev : List ℕ
  -- the digest of the message's body, 32 bytes
  pub body_hash : List ℕ

-- whether a message is among those received
abbrev pub is_received : FinSet received_cmp → ReceivedMessage → Bool
is_received received m = finite.contains_key received m

-- one message more, if it isn't there
abbrev pub with_received : FinSet received_cmp → ReceivedMessage → FinSet received_cmp
with_received received m = finite.insert received m tt

-- what a server owes next: nothing; a clock reading for a body that was heard; a reply
pub data Stage : Type 0 where
  Idle : Stage
  Heard : (from : ℕ) (body : List ℕ) → Stage
  Owes : (to : ℕ) (body : List ℕ) → Stage

-- what is known of a node of each kind
pub data Machine : Type 0 where
  Server : World → Stage → Machine
  Client : (clock : Timeval) → Machine

-- The node; the messages that it received; those that it sent and that have no acknowledgement yet, by their
-- numbers in its log; and its machine. A set and a map have an order, so that equal states are equal data.
pub record State : Type 0 where
  pub node : ℕ
  pub received : FinSet received_cmp
  pub sends : finite.FinMap nat_cmp SentMessage
  pub machine : Machine

-- the last clock reading
abbrev pub clock_in : Machine → Timeval
clock_in (Server w stage) = w.clock
clock_in (Client clock) = clock

-- a server's world is one that a server of this number can have; a client's clock shows a time
abbrev pub IsMachine : ℕ → Machine → Type 0
IsMachine node (Server w stage) = IsWorld node w
IsMachine node (Client clock) = IsTime clock

-- A state is one that a node can be in.
abbrev pub IsState : State → Type 0
IsState s = IsMachine s.node s.machine

-- the state that a node with this machine begins with
abbrev pub opened_with : ℕ → Machine → State
opened_with node machine = record {
  node = node;
  received = finite.empty;
  sends = finite.empty;
  machine = machine;
}

-- the state that the server of a number begins with
abbrev pub opening_server : ℕ → State
opening_server node = opened_with node (Server (opening_world node) Idle)

-- the state that the client of a number begins with
abbrev pub opening_client : ℕ → State
opening_client node = opened_with node (Client epoch)
