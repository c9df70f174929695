-- What holds of replays: each law is the contract of a function in src/laws.rt.
use Rattle.std.specs.Prelude.{◌≡◌, ◌↔◌, ◌+◌, ℕ, List, [], ◌∷◌, ◌++◌, map, Ok, Err}
use Rattle.secure_log.specs.authenticator.declared.member.Member.{Member}
use Rattle.secure_log.specs.authenticator.declared.authenticator.Authenticator.{Authenticator}
use Rattle.secure_log.specs.LogEntries.Chain.{Logged, hash_after, last_hash, logged_link, logged_links, pairs}
use Rattle.secure_log.specs.LogEntries.Chain.{span}
use Rattle.secure_log.specs.Log.{log_hash}
use Rattle.state_spec.specs.State.{Machine, State, opened_with}
use Rattle.replay_spec.specs.Placed.{Placed, logged_place, logged_places}
use Rattle.replay_spec.specs.Steps.{Takes}
use Rattle.replay_spec.specs.Stepping.{ReplayFault, step}
use Rattle.replay_spec.specs.Replay.{Honest, last_state, found, Sound, Fault, verdict_of}
use Rattle.replay_spec.specs.Opening.{opening_of}
use Rattle.replay_spec.specs.HonestLogs.{IsHonestLog}

-- ---- steps and runs

-- The function gives a state exactly where the entry leads to it.
abbrev pub StepsAsItTakes : Type 0
StepsAsItTakes = (ms : List Member) (s t : State) (p : Placed) → (step ms s p ≡ Ok t) ↔ Takes ms s p t

-- Entries have one list of states at most.
abbrev pub OneRun : Type 0
OneRun =
    (ms : List Member) (s : State) (ps : List Placed) (ts us : List State)
    → Honest ms s ps ts → Honest ms s ps us → ts ≡ us

-- A verdict is Sound exactly where some list of states is honest, with its last state and what is shown.
abbrev pub SoundExactlyIf : Type 0
SoundExactlyIf =
    (ms : List Member) (s t : State) (ps : List Placed) (shown : List Authenticator)
    → (verdict_of ms s ps ≡ Sound t shown)
    ↔ ((ts : List State) × Honest ms s ps ts × (last_state s ts ≡ t) × (found s ps ts ≡ shown))

-- An entry is the first that has a fault: those before it are honest, and it has this fault after them.
pub record IsFirstFault (ms : List Member) (s : State) (ps : List Placed) (fault : ReplayFault) (number : ℕ)
    : Type 0 where
  pub before : List Placed
  pub entry : Placed
  pub rest : List Placed
  pub whole : ps ≡ before ++ entry ∷ rest
  pub states : List State
  pub honest : Honest ms s before states
  pub refused : step ms (last_state s states) entry ≡ Err fault
  pub there : entry.number ≡ number

-- A verdict is Fault exactly where an entry is the first that has one, with its kind and its number.
abbrev pub FaultExactlyIf : Type 0
FaultExactlyIf =
    (ms : List Member) (s : State) (ps : List Placed) (fault : ReplayFault) (number : ℕ)
    → (verdict_of ms s ps ≡ Fault fault number) ↔ IsFirstFault ms s ps fault number

-- Where the first part of entries is honest, the whole is exactly where the second is after the first's last
-- state.
abbrev pub PartsAreHonest : Type 0
PartsAreHonest =
    (ms : List Member) (s : State) (ps qs : List Placed) (ts us : List State)
    → Honest ms s ps ts → (Honest ms s (ps ++ qs) (ts ++ us) ↔ Honest ms (last_state s ts) qs us)

-- ---- places

-- Entries in two parts stand at the places of the first, and at those of the second after its number and
-- hash.
abbrev pub PlacesAreJoined : Type 0
PlacesAreJoined =
    (before : ℕ) (opening : List ℕ) (log more : List Logged)
    → logged_places before opening (log ++ more)
    ≡ logged_places before opening log
    ++ logged_places (before + span log) (last_hash opening (logged_links before log)) more

-- the number of an entry's place and the hash there
abbrev pub pair_at : Placed → ℕ × List ℕ
pair_at p =
    (p.number, hash_after p.before (logged_link p.number (record { skipped = p.skipped; entry = p.entry })))

-- The places' numbers and hashes are the pairs of the chain, after the first.
abbrev pub PlacesHavePairs : Type 0
PlacesHavePairs =
    (before : ℕ) (opening : List ℕ) (log : List Logged)
    → pairs before opening (logged_links before log)
    ≡ (before, opening) ∷ map pair_at (logged_places before opening log)

-- ---- honest logs

-- An opening state has no messages.
abbrev pub OpeningsHaveNoMessages : Type 0
OpeningsHaveNoMessages =
    (m : Member) → (machine : Machine) × (opening_of m ≡ opened_with m.node machine)

-- The log without entries is honest.
abbrev pub NoEntries : Type 0
NoEntries = (ms : List Member) (o : State) → IsHonestLog ms o [] o

-- An honest log stays so by one entry more that may stand after its last state.
abbrev pub OneEntryMore : Type 0
OneEntryMore =
    (ms : List Member) (o s t : State) (log : List Logged) (l : Logged)
    → IsHonestLog ms o log s → Takes ms s (logged_place (span log + 1 + l.skipped) (log_hash log) l) t
    → IsHonestLog ms o (log ++ l ∷ []) t

-- It stays so by more entries that are honest after its last state.
abbrev pub EntriesMore : Type 0
EntriesMore =
    (ms : List Member) (o s t : State) (log more : List Logged) (ts : List State)
    → IsHonestLog ms o log s → Honest ms s (logged_places (span log) (log_hash log) more) ts
    → last_state s ts ≡ t → IsHonestLog ms o (log ++ more) t

-- The last state of an honest log is one.
abbrev pub OneLastState : Type 0
OneLastState =
    (ms : List Member) (o s t : State) (log : List Logged)
    → IsHonestLog ms o log s → IsHonestLog ms o log t → s ≡ t

-- A state is of the node that the log began with.
abbrev pub NodeStays : Type 0
NodeStays = (ms : List Member) (o s : State) (log : List Logged) → IsHonestLog ms o log s → s.node ≡ o.node
