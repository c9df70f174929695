-- What a client takes of the bytes that came back for a call: first an acknowledgement, then a reply.
use Rattle.std.specs.Prelude.{◌≡◌, ◌⊎◌, ◌+◌, ℕ, List, map, take, Result, Ok, Err, Some, None, IsOk, IsSome}
use Rattle.std.specs.Prelude.{IsSomeAnd}
use Rattle.std.specs.List.{Any}
use Rattle.std.specs.FinMap.{get}
use Rattle.authenticator.specs.Numbers.{number_in}
use Rattle.authenticator.specs.Roster.{member_of}
use Rattle.authenticator.specs.Signed.{IsSignedIn}
use Rattle.secure_log.specs.LogEntries.Chain.{Logged}
use Rattle.secure_log.specs.declared.log_entries.entry.Entry.{Entry}
use Rattle.envelopes.specs.Acknowledgement.{ack_shows}
use Rattle.envelopes.specs.Checking.{IsAckText}
use Rattle.envelopes.specs.Envelope.{envelope_message}
use Rattle.envelopes.specs.declared.acknowledgement.Ack.{Ack}
use Rattle.envelopes.specs.declared.envelope.Envelope.{Envelope}
use Rattle.commitment.specs.Received.{receipt_of}
use Rattle.commitment.specs.Receiver.{Opens}
use Rattle.commitment.specs.Senders.LookUps.{FitsEnvelope, ack_at}
use Rattle.rpc.specs.Call.{message_at}
use Rattle.node_logs.specs.AckTaking.{ack_entry}
use Rattle.node_logs.specs.Nodes.{LacksKeys, LacksNumbers, NodeParts, next_number, sender_of}
use Rattle.node_logs.specs.Steps.Nodes.{log_of}
use Rattle.nodes.specs.Sides.{IsTextOfAck}
use Rattle.remote.specs.Remotes.{RemoteParts, having_acknowledged, having_received}
use Rattle.remote.specs.Calls.{IsCallAt}
use Rattle.remote.specs.declared.fault.AcceptFault.{AcceptFault}
use Rattle.remote.specs.declared.fault.AcceptFault.TheVariants.{NotAcknowledged, AcknowledgedTwice}
use Rattle.remote.specs.declared.fault.AcceptFault.TheVariants.{Unanswered}
use Rattle.remote.specs.declared.fault.AcceptFault.TheVariants.{NotOwed, AnotherCall, Repeated, KeysUsedUp}
use Rattle.remote.specs.declared.fault.AcceptFault.TheVariants.{NoNumbers, NoMemory}

-- ---- the acknowledgement

-- The bytes are the text of an acknowledgement of exactly this call, by the server, whose member in the
-- roster signed it.
pub record Acknowledges (r : RemoteParts) (call : Envelope) (bytes : List ℕ) (a : Ack) : Type 0 where
  pub text : IsAckText bytes a
  pub signer : a.by ≡ r.server
  pub fits : FitsEnvelope a call
  pub signed : IsSignedIn r.client.roster (ack_shows a)

-- A log has the ACK that an acknowledgement makes.
abbrev pub HasAck : NodeParts → Ack → Type 0
HasAck n a = Any (λ (e : Entry). e ≡ ack_entry a) (map (λ (l : Logged). l.entry) n.entries)

-- The ACK of an acknowledgement is the next entry of the log, which awaited it; or it stands there from
-- before, and nothing has changed.
pub data Stands (r : RemoteParts) (a : Ack) (r' : RemoteParts) : Type 0 where
  logged : IsSome (get r.client.state.sends a.seq) → (¬ LacksNumbers 1 r.client)
      → r' ≡ having_acknowledged r a → Stands r a r'
  already : HasAck r.client a → r' ≡ r → Stands r a r'

-- The call with a number is acknowledged, and the acknowledgement stands in the log.
pub record IsAcknowledged (r : RemoteParts) (number : ℕ) (bytes : List ℕ) (call : Envelope) (a : Ack)
    (r' : RemoteParts)
    : Type 0 where
  pub is_call : IsCallAt r number call
  pub acknowledges : Acknowledges r call bytes a
  pub stands : Stands r a r'

-- Why bytes don't acknowledge it; nothing has changed. NotAcknowledged: they are no acknowledgement of the
-- call that the server signed. AcknowledgedTwice: the log has another one of the call. NoNumbers: the log has
-- no number for the ACK.
abbrev pub RefusesAck : RemoteParts → (number : ℕ) (bytes : List ℕ) → AcceptFault → RemoteParts → Type 0
RefusesAck r number bytes NotAcknowledged r' =
    ((call : Envelope) (a : Ack) → IsCallAt r number call → ¬ Acknowledges r call bytes a) × (r' ≡ r)
RefusesAck r number bytes AcknowledgedTwice r' =
    (call : Envelope) × ((a : Ack) × (IsCallAt r number call × Acknowledges r call bytes a
    × (get r.client.state.sends a.seq ≡ None) × (¬ HasAck r.client a) × (r' ≡ r)))
RefusesAck r number bytes NoNumbers r' =
    (call : Envelope) × ((a : Ack) × (IsCallAt r number call × Acknowledges r call bytes a
    × LacksNumbers 1 r.client × (r' ≡ r)))
RefusesAck r number bytes NoMemory r' = r' ≡ r
RefusesAck r number bytes Unanswered r' = ⊥
RefusesAck r number bytes NotOwed r' = ⊥
RefusesAck r number bytes (AnotherCall place) r' = ⊥
RefusesAck r number bytes (Repeated place) r' = ⊥
RefusesAck r number bytes KeysUsedUp r' = ⊥

-- ---- the reply

-- A reply is owed to these bytes: they say a call (RFC 5531, section 9).
abbrev pub IsOwed : List ℕ → Type 0
IsOwed bytes = IsOk (message_at bytes)

-- The bytes are the text of an envelope from the server to the client, which the server's member in the
-- roster signed.
pub record IsFromServer (r : RemoteParts) (bytes : List ℕ) (e : Envelope) : Type 0 where
  pub opens : Opens r.client.node r.client.roster bytes (Ok e)
  pub sender : e.from ≡ r.server

-- Its message is new to the client.
abbrev pub IsNew : RemoteParts → Envelope → Type 0
IsNew r e = receipt_of (log_of r.client) (envelope_message e) ≡ None

-- An envelope is the reply to this very call: in the server's log, whose version the roster tells, it has the
-- number two after that of the RECV that was acknowledged; and it begins with the call's transaction id, its
-- first four bytes.
pub record IsReplyTo (r : RemoteParts) (call : Envelope) (a : Ack) (e : Envelope) : Type 0 where
  pub place : IsSomeAnd (member_of r.client.roster r.server)
      (λ m. number_in m.log_version e.seq ≡ number_in m.log_version a.number + 2)
  pub xid : take 4 e.body ≡ take 4 call.body

-- The client received such an envelope, and this is the number of its RECV.
pub record IsReceived (r : RemoteParts) (bytes : List ℕ) (e : Envelope) (place : ℕ) (r' : RemoteParts)
    : Type 0 where
  pub from : IsFromServer r bytes e
  pub new : IsNew r e
  pub left : ¬ LacksKeys 1 r.client
  pub numbers : ¬ LacksNumbers 1 r.client
  pub received : r' ≡ having_received r e
  pub numbered : place ≡ next_number r.client

-- The client received the reply to a call that is acknowledged; this is its body, and the text of the
-- client's acknowledgement of it.
pub record IsReplied (r : RemoteParts) (call : Envelope) (a : Ack) (bytes body receipt : List ℕ)
    (r' : RemoteParts)
    : Type 0 where
  pub envelope : Envelope
  pub place : ℕ
  pub received : IsReceived r bytes envelope place r'
  pub is_reply : IsReplyTo r call a envelope
  pub says : body ≡ envelope.body
  pub ack : Ack
  pub made : ack_at (sender_of r'.client) place ≡ Some ack
  pub written : IsTextOfAck ack receipt

-- Why bytes aren't taken for the reply, and what is left. Unanswered: they are no envelope from the server
-- that it signed. Repeated: its message was received before, by the RECV with this number. AnotherCall: it is
-- new, and not the reply to this call; its RECV is logged at this number. KeysUsedUp, NoNumbers: no key or no
-- number is left for its RECV. But for AnotherCall nothing has changed; only where memory was refused for the
-- text of the acknowledgement may the RECV stand.
abbrev pub RefusesReply : RemoteParts → (call : Envelope) (a : Ack) (bytes : List ℕ) → AcceptFault →
    RemoteParts
    → Type 0
RefusesReply r call a bytes Unanswered r' = ((e : Envelope) → ¬ IsFromServer r bytes e) × (r' ≡ r)
RefusesReply r call a bytes (AnotherCall place) r' =
    (e : Envelope) × (IsReceived r bytes e place r' × (¬ IsReplyTo r call a e))
RefusesReply r call a bytes (Repeated place) r' =
    (e : Envelope) ×
    (IsFromServer r bytes e × (receipt_of (log_of r.client) (envelope_message e) ≡ Some place)
    × (r' ≡ r))
RefusesReply r call a bytes KeysUsedUp r' =
    (e : Envelope) × (IsFromServer r bytes e × IsNew r e × LacksKeys 1 r.client × (r' ≡ r))
RefusesReply r call a bytes NoNumbers r' =
    (e : Envelope) × (IsFromServer r bytes e × IsNew r e × (¬ LacksKeys 1 r.client) × LacksNumbers 1 r.client
    × (r' ≡ r))
RefusesReply r call a bytes NoMemory r' =
    (r' ≡ r) ⊎ ((e : Envelope) × ((place : ℕ) × (IsReceived r bytes e place r' × IsReplyTo r call a e)))
RefusesReply r call a bytes NotAcknowledged r' = ⊥
RefusesReply r call a bytes AcknowledgedTwice r' = ⊥
RefusesReply r call a bytes NotOwed r' = ⊥

-- A call wrote the text of an acknowledgement, or was refused memory.
abbrev pub WritesReceipt : Ack → Result (Unit {0}) AcceptFault → List ℕ → Type 0
WritesReceipt a (Ok x) bytes = IsTextOfAck a bytes
WritesReceipt a (Err fault) bytes = fault ≡ NoMemory
