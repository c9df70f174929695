-- The text under a state's digest in its parts: the version, the node, its kind, and what stands after these.
-- Serves: digests_tell_states.
use Rattle.std.proofs.Common.{◌≡◌, ℕ, ◌<◌, ◌^◌, List, ◌++◌, map, refl, sym, ◌∙◌, arith}
use Rattle.std.specs.FinMap as finite
use Rattle.nfs_items.specs.Timeval.{Timeval, timeval_value}
use Rattle.nfs_items.specs.xdr.Item.{Value, word, fixed, spelling, number_spelling}
use Rattle.nfs_items.proofs.xdr.Exact.{one_meaning}
use Rattle.state_spec.specs.server_spec.World.{World}
use Rattle.state_spec.specs.server_spec.FileItems.{file_digest}
use Rattle.state_spec.specs.Limits.{max_received}
use Rattle.state_spec.specs.State.{Stage, Machine, Server, Client, State}
use Rattle.state_spec.specs.StateItems.{received_value, sent_value, world_value, machine_value, state_item}
use Rattle.replay_spec.proofs.OfStateLaws.Lengths.{counted_item}

-- a state's text under its digest, by its machine
abbrev pub text_with : State → Machine → List ℕ
text_with s m = spelling (state_item (fixed 32)) (1, (s.node, machine_value (fixed 32) file_digest s m))

-- the kind of a machine: 1 is a server, 2 a client
abbrev pub kind : Machine → ℕ
kind (Server w stage) = 1
kind (Client clock) = 2

-- what it says after the kind of a server
abbrev pub server_said : State → World → Stage → Value (counted_item max_received 1)
server_said s w stage = (
  timeval_value w.clock,
  (
    map received_value (finite.keys s.received),
    (map sent_value (finite.entries s.sends), world_value (fixed 32) file_digest w stage),
  ),
)

-- and after that of a client
abbrev pub client_said : State → Timeval → Value (counted_item max_received 2)
client_said s clock = (
  timeval_value clock,
  (map received_value (finite.keys s.received), (map sent_value (finite.entries s.sends), 0)),
)

-- the bytes after the kind
abbrev pub body : State → Machine → List ℕ
body s (Server w stage) = spelling (counted_item max_received 1) (server_said s w stage)
body s (Client clock) = spelling (counted_item max_received 2) (client_said s clock)

head_is : (s : State) (m : Machine)
    → text_with s m
    ≡ number_spelling 4 1 ++ (number_spelling 4 s.node ++ (number_spelling 4 (kind m) ++ body s m))
head_is s (Server w stage) = refl
head_is s (Client clock) = refl

small : (m : Machine) → kind m < 2 ^ 32
small (Server w stage) = omega arith
small (Client clock) = omega arith

-- texts that are the same have one node, one kind, and the same after these
pub heads : (s t : State) (m n : Machine) → s.node < 2 ^ 32 → t.node < 2 ^ 32 → text_with s m ≡ text_with t n
    → (s.node ≡ t.node) × (kind m ≡ kind n) × (body s m ≡ body t n)
heads s t m n f g e =
    let one = one_meaning word 1 1
    (number_spelling 4 s.node ++ (number_spelling 4 (kind m) ++ body s m))
    (number_spelling 4 t.node ++ (number_spelling 4 (kind n) ++ body t n))
    (omega arith) (omega arith) (sym (head_is s m) ∙ e ∙ head_is t n) in
    let two = one_meaning word s.node t.node
    (number_spelling 4 (kind m) ++ body s m) (number_spelling 4 (kind n) ++ body t n) f g one.1 in
    let three = one_meaning word (kind m) (kind n) (body s m) (body t n) (small m) (small n) two.1 in
    (two.0, three.0, three.1)
