-- The state that a value says. Each value gives one, also where no state says the value: numbers that stand
-- for no kind give the first, and a list whose keys don't rise gives the empty map.
use Rattle.std.specs.Prelude.{ℕ, zero, suc, List, map}
use Rattle.std.specs.Ordering.{nat_cmp}
use Rattle.std.specs.declared.cmp.Ordering.{Ordering}
use Rattle.std.specs.FinMap as finite
use Rattle.std.specs.FinSet.{FinSet}
use Rattle.xdr.specs.Item.{Value}
use Rattle.nfs_items.specs.Timeval.{Timeval}
use Rattle.server_spec.specs.World.{World}
use Rattle.server_spec.specs.FileItems.{file_item}
use Rattle.server_spec.specs.FileValues.{time_from, numbered_from}
use Rattle.state_spec.specs.State.{ReceivedMessage, received_cmp, SentMessage, Stage, Idle, Heard, Owes}
use Rattle.state_spec.specs.State.{Machine, Server, Client, State}
use Rattle.state_spec.specs.StateItems.{received_item, sent_item, stage_item, stage_body, rest_item}
use Rattle.state_spec.specs.StateItems.{state_item}

-- the map of entries whose keys strictly rise
unfoldable pub map_from : {K X : Type 0} (R : K → K → Ordering) → List (K × X) → finite.FinMap R X
map_from R es = finite.from_sorted es

-- the set of keys that strictly rise
unfoldable pub set_from : {K : Type 0} (R : K → K → Ordering) → List K → FinSet R
set_from R ks = map_from R (map (λ k. (k, tt)) ks)

-- the message that a value says was received
unfoldable pub received_from : Value received_item → ReceivedMessage
received_from v = record { from = v.0; seq = v.1.0; hash = v.1.1 }

-- a message with its number
unfoldable pub sent_from : Value sent_item → ℕ × SentMessage
sent_from v = (v.0, record { to = v.1.0; prev = v.1.1.0; body_hash = v.1.1.1 })

-- the stage of a number, with what stands after that
unfoldable pub stage_of : (n : ℕ) → Value (stage_body n) → Stage
stage_of zero v = Idle
stage_of (suc zero) v = Heard v.0 v.1
stage_of (suc (suc zero)) v = Owes v.0 v.1
stage_of (suc (suc (suc n))) v = Idle

-- the stage that a value says
unfoldable pub stage_from : Value stage_item → Stage
stage_from v = stage_of v.0 v.1

-- the world of a node with this clock, by what stands after a server's messages
unfoldable pub world_from : ℕ → Timeval → Value (rest_item file_item 1) → World
world_from node clock v = record {
  files = record { fsid = node; next = v.1.0; files = map_from nat_cmp (map numbered_from v.1.1.1) };
  clock = clock;
  mounts = v.1.1.0;
}

-- the machine of a node with this clock, by its kind and what stands after its messages
unfoldable pub machine_from : ℕ → Timeval → (kind : ℕ) → Value (rest_item file_item kind) → Machine
machine_from node clock zero v = Client clock
machine_from node clock (suc zero) v = Server (world_from node clock v) (stage_from v.0)
machine_from node clock (suc (suc n)) v = Client clock

-- the state that a value says
unfoldable pub state_from : Value (state_item file_item) → State
state_from v = record {
  node = v.1.0;
  received = set_from received_cmp (map received_from v.1.1.1.1.0);
  sends = map_from nat_cmp (map sent_from v.1.1.1.1.1.0);
  machine = machine_from v.1.0 (time_from v.1.1.1.0) v.1.1.0 v.1.1.1.1.1.1;
}
