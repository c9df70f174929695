-- What holds of the states of nodes and of their digests: each law is the contract of a function in
-- src/state_laws.rt.
use Rattle.std.specs.Prelude.{◌≡◌, ℕ, ◌<◌, ◌≤◌, ◌^◌, List, [], ◌∷◌, ◌++◌, map}
use Rattle.std.specs.List.{AllByRecursion}
use Rattle.std.specs.FinMap as finite
use Rattle.nfs_items.specs.xdr.Item.{Fits, spelling}
use Rattle.secure_log.specs.authenticator.declared.member.Member.{Member}
use Rattle.secure_log.specs.authenticator.declared.member.LogVersion.{LogVersion}
use Rattle.secure_log.specs.LogEntries.Entry.{entry_item, entry_value}
use Rattle.secure_log.specs.LogEntries.Chain.{Logged, NoCollision}
use Rattle.secure_log.specs.Log.{HasNumbers}
use Rattle.state_spec.specs.server_spec.FileItems.{file_item, file_value}
use Rattle.state_spec.specs.Limits.{max_received, max_sends}
use Rattle.state_spec.specs.State.{Machine, Server, Client, State, IsState}
use Rattle.state_spec.specs.StateItems.{received_item, received_value, sent_item, sent_value, stage_item}
use Rattle.state_spec.specs.StateItems.{stage_value}
use Rattle.state_spec.specs.StateText.{IsStateText, digest_text, state_digest}
use Rattle.replay_spec.specs.Bodies.{HasBytes}
use Rattle.replay_spec.specs.Opening.{opening_of}
use Rattle.replay_spec.specs.HonestLogs.{IsHonestLog}

-- ---- states that can be spelled

-- What a state's world doesn't bound can be spelled: a server's stage, and the seconds of a client's clock.
abbrev pub MachineIsSpelled : Machine → Type 0
MachineIsSpelled (Server w stage) = Fits stage_item (stage_value stage)
MachineIsSpelled (Client clock) = clock.seconds < 2 ^ 32

-- A state is one that a node can be in, and each of its parts has a spelling. How many messages it knows
-- isn't asked.
pub record IsSpelled (s : State) : Type 0 where
  pub state : IsState s
  pub node : s.node < 2 ^ 32
  pub received : AllByRecursion (Fits received_item) (map received_value (finite.keys s.received))
  pub sends : AllByRecursion (Fits sent_item) (map sent_value (finite.entries s.sends))
  pub machine : MachineIsSpelled s.machine

-- It knows no more messages than a text may have.
pub record HasFew (s : State) : Type 0 where
  pub received : finite.len s.received ≤ max_received
  pub sends : finite.len s.sends ≤ max_sends

-- ---- the texts under a digest

-- the texts of a server's files
abbrev pub machine_texts : Machine → List (List ℕ)
machine_texts (Server w stage) = map (λ e. spelling file_item (file_value e)) (finite.entries w.files.files)
machine_texts (Client clock) = []

-- the texts that are hashed for a state's digest, and that digest, which is the content of a CHECK
abbrev pub state_texts : State → List (List ℕ)
state_texts s = digest_text s ∷ state_digest s ∷ machine_texts s.machine

-- ---- the laws

-- States are the same where their digests are, where no two of the texts under these have one digest. Of one
-- of them it isn't asked how many messages it knows.
abbrev pub DigestsTellStates : Type 0
DigestsTellStates =
    (s t : State) → IsSpelled s → HasFew s → IsSpelled t → NoCollision (state_texts s ++ state_texts t)
    → state_digest s ≡ state_digest t → s ≡ t

-- A state that has a text can be spelled, and knows few messages.
abbrev pub TextsAreSpelled : Type 0
TextsAreSpelled = (s : State) (bytes : List ℕ) → IsStateText s bytes → IsSpelled s × HasFew s

-- The last state of an honest log can be spelled, where its entries have texts, bodies are bytes, and its numbers
-- are such as a log of a version has.
abbrev pub HonestStatesAreSpelled : Type 0
HonestStatesAreSpelled =
    (v : LogVersion) (ms : List Member) (m : Member) (log : List Logged) (s : State)
    → m.node < 2 ^ 32 → AllByRecursion (λ l. Fits entry_item (entry_value l.entry)) log
    → AllByRecursion (λ l. HasBytes l.entry) log → HasNumbers v log
    → IsHonestLog ms (opening_of m) log s → IsSpelled s
