-- What holds of honest logs: each law is the contract of a function in src/laws.rt.
use Rattle.std.specs.Prelude.{◌≡◌, ◌↔◌, ◌+◌, ◌≤◌, ℕ, true, false, IsTrue, List, ◌++◌, Some}
use Rattle.std.specs.List.{AllByRecursion}
use Rattle.std.specs.FinMap as finite
use Rattle.merkle_keys.specs.Signing.{SignatureParts}
use Rattle.secure_log.specs.authenticator.declared.member.Member.{Member}
use Rattle.secure_log.specs.authenticator.declared.member.LogVersion.{LogVersion}
use Rattle.secure_log.specs.authenticator.Numbers.{IsNumber, number_in}
use Rattle.secure_log.specs.LogEntries.Chain.{Logged, logged_links, span}
use Rattle.secure_log.specs.declared.log_entries.entry.Entry.{Entry}
use Rattle.secure_log.specs.Log.{HasNumbers, log_hash}
use Rattle.nfs_items.specs.Timeval.{Timeval}
use Rattle.state_spec.specs.server_spec.World.{World}
use Rattle.state_spec.specs.server_spec.Replies.{reply_owed}
use Rattle.state_spec.specs.State.{ReceivedMessage, is_received, SentMessage, Machine, State}
use Rattle.state_spec.specs.State.{opened_with}
use Rattle.replay_spec.specs.Placed.{logged_places}
use Rattle.replay_spec.specs.Replay.{Honest, last_state}
use Rattle.replay_spec.specs.HonestLogs.{IsHonestLog}
use Rattle.replay_spec.specs.LogLaws.LoggedMessages.{IsReceivedAt, IsSentAt, HasNoAck, entries_of, recv_count}
use Rattle.replay_spec.specs.LogLaws.LoggedMessages.{send_count}
use Rattle.replay_spec.specs.LogLaws.HonestServers.{MayHear, heard_entries, state_served}

-- ---- honest servers

-- A server that logs what it may hear, the time, and the reply that is owed, is honest.
abbrev pub HonestServersReplay : Type 0
HonestServersReplay =
    (ms : List Member) (s : State) (w : World) (from seq : ℕ) (prev body : List ℕ)
    (signature : SignatureParts) (time : Timeval) (number : ℕ) (before : List ℕ) (skipped : ℕ)
    → MayHear ms s w from seq prev body signature time
    → let entries = heard_entries skipped from seq prev body signature time (reply_owed w time body) in
    (ts : List State) × Honest ms s (logged_places number before entries) ts
    × (last_state s ts ≡ state_served s w skipped from seq prev body signature time number before)

-- So its log stays honest.
abbrev pub HonestServersStay : Type 0
HonestServersStay =
    (ms : List Member) (o s : State) (log : List Logged) (w : World) (from seq : ℕ) (prev body : List ℕ)
    (signature : SignatureParts) (time : Timeval) (skipped : ℕ)
    → IsHonestLog ms o log s → MayHear ms s w from seq prev body signature time
    → let entries = heard_entries skipped from seq prev body signature time (reply_owed w time body) in
    IsHonestLog ms o (log ++ entries)
    (state_served s w skipped from seq prev body signature time (span log) (log_hash log))

-- ---- honest logs

-- No message is received at two places of an honest log, by sender, word and hash; nor is one that was
-- received before it.
abbrev pub NoMessageTwice : Type 0
NoMessageTwice =
    (ms : List Member) (o s : State) (log : List Logged) (j k : ℕ) (m : ReceivedMessage)
    → IsHonestLog ms o log s → IsReceivedAt o.node (entries_of log) j m
    → IsReceivedAt o.node (entries_of log) k m → j ≡ k

abbrev pub NoneOfBefore : Type 0
NoneOfBefore =
    (ms : List Member) (o s : State) (log : List Logged) (k : ℕ) (m : ReceivedMessage)
    → IsHonestLog ms o log s → IsReceivedAt o.node (entries_of log) k m → is_received o.received m ≡ false

-- The messages received in the last state are those of the log's RECVs.
abbrev pub ReceivedAreLogged : Type 0
ReceivedAreLogged =
    (ms : List Member) (node : ℕ) (machine : Machine) (s : State) (log : List Logged) (m : ReceivedMessage)
    → IsHonestLog ms (opened_with node machine) log s
    → (is_received s.received m ≡ true) ↔ ((place : ℕ) × IsReceivedAt node (entries_of log) place m)

-- Those sent in the last state are those of the log's SENDs that have no ACK, where its numbers are such as a
-- log of a version has.
abbrev pub SendsAreLogged : Type 0
SendsAreLogged =
    (v : LogVersion) (ms : List Member) (node : ℕ) (machine : Machine) (s : State) (log : List Logged) (k : ℕ)
    (m : SentMessage)
    → HasNumbers v log → IsHonestLog ms (opened_with node machine) log s
    → (finite.get s.sends k ≡ Some m) ↔ (IsSentAt log k m × HasNoAck (entries_of log) k)

-- They are at most as many as the log's RECVs, and SENDs.
pub record IsCounted (es : List Entry) (s : State) : Type 0 where
  pub received : finite.len s.received ≤ recv_count es
  pub sends : finite.len s.sends ≤ send_count es

abbrev pub MessagesAreCounted : Type 0
MessagesAreCounted =
    (ms : List Member) (node : ℕ) (machine : Machine) (s : State) (log : List Logged)
    → IsHonestLog ms (opened_with node machine) log s → IsCounted (entries_of log) s

-- ---- entries after any state

-- After any state they are at most as many more as the entries have RECVs, and SENDs.
pub record IsCountedOn (s : State) (es : List Entry) (t : State) : Type 0 where
  pub received : finite.len t.received ≤ finite.len s.received + recv_count es
  pub sends : finite.len t.sends ≤ finite.len s.sends + send_count es

abbrev pub MessagesAreCountedOn : Type 0
MessagesAreCountedOn =
    (ms : List Member) (s : State) (number : ℕ) (before : List ℕ) (log : List Logged) (ts : List State)
    → Honest ms s (logged_places number before log) ts → IsCountedOn s (entries_of log) (last_state s ts)

-- the numbers of the messages that were sent, by the words that a log of a version has for them, are at most this
abbrev pub SendsLieUpTo : LogVersion → State → (number : ℕ) → Type 0
SendsLieUpTo v s number = (k : ℕ) → IsTrue (finite.contains_key s.sends k) → number_in v k ≤ number

-- They are at most the last entry's number, if they were at most the one before the first's, and each entry's
-- number is such as a log of the version has.
abbrev pub NumbersLieBelow : Type 0
NumbersLieBelow =
    (v : LogVersion) (ms : List Member) (s : State) (number : ℕ) (before : List ℕ) (log : List Logged)
    (ts : List State)
    → SendsLieUpTo v s number → AllByRecursion (λ l. IsNumber v l.skipped l.number) (logged_links number log)
    → Honest ms s (logged_places number before log) ts
    → SendsLieUpTo v (last_state s ts) (number + span log)
