-- The reference machine of a node: which entry may stand after a state, and the state after it (PeerReview,
-- SOSP 2007, reference implementations of the nodes' state machines).
use Rattle.std.specs.Prelude.{◌≡◌, ◌≢◌, ◌<◌, ℕ, false, List, Some}
use Rattle.std.specs.FinMap as finite
use Rattle.sha2.specs.Sha256.{sha256}
use Rattle.merkle_keys.specs.Signing.{SignatureParts}
use Rattle.secure_log.specs.authenticator.Numbers.{word_of}
use Rattle.secure_log.specs.authenticator.Signed.{IsSignedIn}
use Rattle.secure_log.specs.authenticator.declared.member.Member.{Member}
use Rattle.secure_log.specs.LogEntries.Messages.{message_hash}
use Rattle.secure_log.specs.declared.log_entries.entry.Entry.{Entry}
use Rattle.secure_log.specs.declared.log_entries.entry.Entry.TheVariants.{Send, Recv, Ack, Clock, Check}
use Rattle.nfs_items.specs.Timeval.{Timeval, is_before}
use Rattle.state_spec.specs.State.{ReceivedMessage, is_received, SentMessage, Idle, Heard, Owes}
use Rattle.state_spec.specs.State.{Machine, Server, Client, State, clock_in}
use Rattle.state_spec.specs.StateText.{state_digest}
use Rattle.state_spec.specs.Steps.{having_received, having_sent, having_acknowledged, at_stage}
use Rattle.state_spec.specs.Steps.{having_read}
use Rattle.replay_spec.specs.Shown.{sender_shown, receiver_shown}
use Rattle.replay_spec.specs.Placed.{Placed}

-- ---- what entries bring

-- the message that a RECV in the log of `node` takes in: its sender, its number, and its hash there
abbrev pub received_message : (node from seq : ℕ) (prev body : List ℕ) → ReceivedMessage
received_message node from seq prev body =
    record { from = from; seq = seq; hash = message_hash node seq prev (sha256 body) }

-- the message that a SEND after a hash sends
abbrev pub sent_message : (to : ℕ) (prev body : List ℕ) → SentMessage
sent_message to prev body = record { to = to; prev = prev; body_hash = sha256 body }

-- the time that a CLOCK shows
abbrev pub time_of : (seconds microseconds : ℕ) → Timeval
time_of seconds microseconds = record { seconds = seconds; microseconds = microseconds }

-- ---- which entry may stand there

-- Nothing is owed: a server neither heard a message whose clock reading is to come, nor owes a reply. A
-- client owes nothing.
abbrev pub OwesNothing : Machine → Type 0
OwesNothing (Server w Idle) = Unit {0}
OwesNothing (Server w (Heard from body)) = ⊥
OwesNothing (Server w (Owes to body)) = ⊥
OwesNothing (Client clock) = Unit {0}

-- A SEND may stand there: of a server the reply that it owes, to the node that it owes it; of a client any.
abbrev pub MaySend : Machine → (to : ℕ) (body : List ℕ) → Type 0
MaySend (Server w Idle) to body = ⊥
MaySend (Server w (Heard from heard)) to body = ⊥
MaySend (Server w (Owes whom reply)) to body = (to ≡ whom) × (body ≡ reply)
MaySend (Client clock) to body = Unit {0}

-- A CLOCK may stand there: of a server at once after the RECV of a message; of a client anywhere.
abbrev pub MayReadClock : Machine → Type 0
MayReadClock (Server w Idle) = ⊥
MayReadClock (Server w (Heard from body)) = Unit {0}
MayReadClock (Server w (Owes to body)) = ⊥
MayReadClock (Client clock) = Unit {0}

-- A RECV may stand there.
pub record MayReceive (ms : List Member) (s : State) (from seq : ℕ) (prev body : List ℕ)
    (signature : SignatureParts) : Type 0 where
  -- nothing is owed
  pub free : OwesNothing s.machine
  -- the sender is another node
  pub other : from ≢ s.node
  -- it's a member, and signed the hash that is made from its SEND
  pub signed : IsSignedIn ms (sender_shown s.node from seq prev body signature)
  -- no message of this sender, word and hash was received before
  pub fresh : is_received s.received (received_message s.node from seq prev body) ≡ false

-- An ACK may stand there.
pub record MayAcknowledge (ms : List Member) (s : State) (to seq : ℕ) (mine : List ℕ) (number : ℕ)
    (prev : List ℕ) (signature : SignatureParts) : Type 0 where
  -- nothing is owed
  pub free : OwesNothing s.machine
  -- it names a message that was sent, to this receiver, and has no ACK yet
  pub message : SentMessage
  pub sent : finite.get s.sends seq ≡ Some message
  pub receiver : message.to ≡ to
  -- the receiver is a member, and signed the hash that is made from its RECV
  pub signed : IsSignedIn ms (receiver_shown s.node seq message mine number prev signature)

-- A CLOCK that shows a time may stand there.
pub record MayShowTime (machine : Machine) (time : Timeval) : Type 0 where
  pub turn : MayReadClock machine
  -- its microseconds are at most 999,999
  pub valid : time.microseconds < 1_000_000
  -- it isn't before the last reading
  pub late : is_before time (clock_in machine) ≡ false

-- A CHECK may stand there.
pub record MayCheck (s : State) (digest : List ℕ) : Type 0 where
  -- nothing is owed
  pub free : OwesNothing s.machine
  -- it holds the digest of the state before it
  pub same : digest ≡ state_digest s

-- An entry may stand after a state.
abbrev pub MayStand : List Member → State → Entry → Type 0
MayStand ms s (Send to body) = MaySend s.machine to body
MayStand ms s (Recv from seq prev body signature) = MayReceive ms s from seq prev body signature
MayStand ms s (Ack to seq mine number prev signature) = MayAcknowledge ms s to seq mine number prev signature
MayStand ms s (Clock seconds microseconds) = MayShowTime s.machine (time_of seconds microseconds)
MayStand ms s (Check digest) = MayCheck s digest

-- ---- the state after it

-- The state after an entry with a word, after a hash: the one before, with what the entry brings. A SEND is
-- kept under its word, and then a server owes nothing; a RECV's message is taken in, and a server owes a
-- clock reading for it; an ACK's message is kept no more; at a CLOCK a server answers the message that it
-- heard, and owes the reply if one is owed; a CHECK changes nothing.
abbrev pub after_entry : State → (entry_word : ℕ) (before : List ℕ) → Entry → State
after_entry s entry_word before (Send to body) =
    at_stage (having_sent s entry_word (sent_message to before body)) Idle
after_entry s entry_word before (Recv from seq prev body signature) =
    at_stage (having_received s (received_message s.node from seq prev body)) (Heard from body)
after_entry s entry_word before (Ack to seq mine theirs prev signature) = having_acknowledged s seq
after_entry s entry_word before (Clock seconds microseconds) = having_read s (time_of seconds microseconds)
after_entry s entry_word before (Check digest) = s

-- An entry at its place leads from a state to another.
pub record Takes (ms : List Member) (s : State) (p : Placed) (t : State) : Type 0 where
  pub stands : MayStand ms s p.entry
  pub after : t ≡ after_entry s (word_of p.skipped p.number) p.before p.entry
