-- Servers and clients are told by what a text under a digest says of them.
-- Serves: digests_tell_states.
use Rattle.std.proofs.Common.{◌≡◌, ℕ, ◌<◌, ◌≤◌, ◌^◌, List, [], ◌++◌, map, length}
use Rattle.std.proofs.Common.{refl, ap, arith}
use Rattle.std.specs.FinMap as finite
use Rattle.std.proofs.lemmas.List.{length-map}
use Rattle.nfs_items.specs.Timeval.{Timeval, timeval_value}
use Rattle.nfs_items.specs.xdr.Item.{Value, Fits, fixed, array, spelling, number_spelling}
use Rattle.nfs_items.proofs.xdr.Exact.{one_meaning}
use Rattle.secure_log.specs.LogEntries.Chain.{IsAmong, NoCollision}
use Rattle.state_spec.specs.server_spec.World.{World}
use Rattle.state_spec.specs.server_spec.FileItems.{file_item, file_value, file_digest}
use Rattle.state_spec.specs.Limits.{max_received}
use Rattle.state_spec.specs.State.{Stage, Machine, Server, Client, State, IsMachine}
use Rattle.state_spec.specs.StateItems.{received_item, received_value, sent_item, sent_value}
use Rattle.state_spec.specs.StateItems.{rest_item, world_value, machine_value}
use Rattle.state_spec.proofs.Worlds.{world_fits}
use Rattle.replay_spec.specs.StateLaws.{IsSpelled, HasFew, MachineIsSpelled, machine_texts}
use Rattle.replay_spec.proofs.OfStateLaws.Lengths.{counted_item, short_server, short_client, few_received}
use Rattle.replay_spec.proofs.OfStateLaws.Lengths.{few_sends}
use Rattle.replay_spec.proofs.OfStateLaws.Heads.{server_said, client_said, kind, body}
use Rattle.replay_spec.proofs.OfStateLaws.SameTexts.{digests_fit, same_values}

-- ---- what fits

-- messages fit, where a count bounds them
received_fit : (count : ℕ) → count < 2 ^ 32 → (s : State) → IsSpelled s
    → length (map received_value (finite.keys s.received)) ≤ count
    → Fits (array count received_item) (map received_value (finite.keys s.received))
received_fit count small s h few = (omega (arith, few, small), few, h.received)

sends_fit : (count : ℕ) → count < 2 ^ 32 → (s : State) → IsSpelled s
    → length (map sent_value (finite.entries s.sends)) ≤ count
    → Fits (array count sent_item) (map sent_value (finite.entries s.sends))
sends_fit count small s h few = (omega (arith, few, small), few, h.sends)

-- what is said of a server after its messages fits, by its files' digests
served_fits : (node : ℕ) (w : World) (stage : Stage) → IsMachine node (Server w stage)
    → MachineIsSpelled (Server w stage)
    → Fits (rest_item (fixed 32) 1) (world_value (fixed 32) file_digest w stage)
unfolding file_digest
served_fits node w stage is spelled =
    let own = world_fits node w stage is spelled in
    let es = finite.entries w.files.files in
    let same = length-map es file_value in
    let digests = length-map es file_digest in (
      own.0,
      (
        own.1.0,
        (
          own.1.1.0,
          (
            omega (arith, same, digests, own.1.1.1.0),
            omega (arith, same, digests, own.1.1.1.1),
            digests_fit file_item file_value es,
          ),
        ),
      ),
    )

-- ---- what two texts say

abbrev received_said : State → List (Value received_item)
received_said s = map received_value (finite.keys s.received)

abbrev sends_said : State → List (Value sent_item)
sends_said s = map sent_value (finite.entries s.sends)

-- what a text after the heads says of a server, or of a client, has a spelling, where a count bounds messages
module _ (count : ℕ) (small : count < 2 ^ 32) (s : State) (h : IsSpelled s)
    (received : length (received_said s) ≤ count) (sends : length (sends_said s) ≤ count) where
  server_fits : (w : World) (stage : Stage) → IsMachine s.node (Server w stage)
      → MachineIsSpelled (Server w stage) → Fits (counted_item count 1) (server_said s w stage)
  server_fits w stage is spelled = (
    (is.seconds, omega (arith, is.clock)),
    (
      received_fit count small s h received,
      (sends_fit count small s h sends, served_fits s.node w stage is spelled),
    ),
  )

  client_fits : (clock : Timeval) → IsMachine s.node (Client clock) → MachineIsSpelled (Client clock)
      → Fits (counted_item count 2) (client_said s clock)
  client_fits clock is spelled = (
    (spelled, omega (arith, is)),
    (received_fit count small s h received, (sends_fit count small s h sends, (omega arith, refl))),
  )

-- a state's messages are few where it has few
few_keys : (s : State) → HasFew s → length (received_said s) ≤ max_received
few_keys s few =
    omega (
      arith,
      length-map (finite.keys s.received) received_value,
      length-map (finite.entries s.received) (λ e. e.0),
      finite.len-entries s.received,
      few.received,
    )

few_entries : (s : State) → HasFew s → length (sends_said s) ≤ max_received
few_entries s few =
    omega (arith, length-map (finite.entries s.sends) sent_value, finite.len-entries s.sends, few.sends)

-- the greatest length of a text after the heads, where messages are few
abbrev longest : ℕ
longest = 17_259_059

-- what is said of two states' servers is the same, where the text after the heads is
module _ (all : List (List ℕ)) (unlike : NoCollision all) (s t : State) (h : IsSpelled s) (few : HasFew s)
    (k : IsSpelled t) where
  in_longest : length (received_said s) ≤ longest
  in_longest = omega (arith, few_keys s few)

  out_longest : length (sends_said s) ≤ longest
  out_longest = omega (arith, few_entries s few)

  same_servers : (w v : World) (stage other : Stage) → IsMachine s.node (Server w stage)
      → MachineIsSpelled (Server w stage) → IsMachine t.node (Server v other)
      → MachineIsSpelled (Server v other)
      → ((x : List ℕ) → IsAmong x (machine_texts (Server w stage)) → IsAmong x all)
      → ((x : List ℕ) → IsAmong x (machine_texts (Server v other)) → IsAmong x all)
      → body s (Server w stage) ≡ body t (Server v other)
      → machine_value file_item file_value s (Server w stage)
      ≡ machine_value file_item file_value t (Server v other)
  unfolding file_digest
  same_servers w v stage other is spelled is' spelled' i j e =
      let long = short_server (server_said s w stage)
      (server_fits max_received (omega arith) s h (few_keys s few) (few_entries s few) w stage is spelled) in
      let size = ap (λ (x : List ℕ). length x) e in
      let rest = spelling (rest_item (fixed 32) 1) (world_value (fixed 32) file_digest v other) in
      let one = (one_meaning (counted_item longest 1) (server_said s w stage) (server_said t v other) [] []
      (server_fits longest (omega arith) s h in_longest out_longest w stage is spelled)
      (server_fits longest (omega arith) t k
      (omega (arith, size, long, few_received (timeval_value v.clock) (received_said t) (sends_said t) rest))
      (omega (arith, size, long, few_sends (timeval_value v.clock) (received_said t) (sends_said t) rest))
      v other is' spelled')
      (ap (λ (x : List ℕ). x ++ []) e)).0 in
      let files = same_values file_item file_value all unlike
      (finite.entries w.files.files) (finite.entries v.files.files)
      (world_fits s.node w stage is spelled).1.1.1.2 (world_fits t.node v other is' spelled').1.1.1.2 i j
      (ap (λ m. m.1.1.1.1.1.1) one) in
      λ n. (
        1,
        (
          (one n).0,
          (
            (one n).1.0,
            ((one n).1.1.0, ((one n).1.1.1.0, ((one n).1.1.1.1.0, ((one n).1.1.1.1.1.0, files n)))),
          ),
        ),
      )

  -- and so of their clients
  same_clients : (clock other : Timeval) → IsMachine s.node (Client clock) → MachineIsSpelled (Client clock)
      → IsMachine t.node (Client other) → MachineIsSpelled (Client other)
      → body s (Client clock) ≡ body t (Client other)
      → machine_value file_item file_value s (Client clock)
      ≡ machine_value file_item file_value t (Client other)
  same_clients clock other is spelled is' spelled' e =
      let long = short_client (client_said s clock)
      (client_fits max_received (omega arith) s h (few_keys s few) (few_entries s few) clock is spelled) in
      let size = ap (λ (x : List ℕ). length x) e in
      let rest = number_spelling 4 0 in
      let one = (one_meaning (counted_item longest 2) (client_said s clock) (client_said t other) [] []
      (client_fits longest (omega arith) s h in_longest out_longest clock is spelled)
      (client_fits longest (omega arith) t k
      (omega (arith, size, long, few_received (timeval_value other) (received_said t) (sends_said t) rest))
      (omega (arith, size, long, few_sends (timeval_value other) (received_said t) (sends_said t) rest))
      other is' spelled')
      (ap (λ (x : List ℕ). x ++ []) e)).0 in
      λ n. (2, one n)

  -- and so of both
  pub same_machines : (m n : Machine) → IsMachine s.node m → MachineIsSpelled m → IsMachine t.node n
      → MachineIsSpelled n
      → ((x : List ℕ) → IsAmong x (machine_texts m) → IsAmong x all)
      → ((x : List ℕ) → IsAmong x (machine_texts n) → IsAmong x all)
      → kind m ≡ kind n → body s m ≡ body t n
      → machine_value file_item file_value s m ≡ machine_value file_item file_value t n
  same_machines (Server w stage) (Server v other) is spelled is' spelled' i j one e =
      same_servers w v stage other is spelled is' spelled' i j e
  same_machines (Server w stage) (Client other) is spelled is' spelled' i j one e =
      absurd (omega (arith, one))
  same_machines (Client clock) (Server v other) is spelled is' spelled' i j one e =
      absurd (omega (arith, one))
  same_machines (Client clock) (Client other) is spelled is' spelled' i j one e =
      same_clients clock other is spelled is' spelled' e
