-- What the client and the server each do of an exchange alone, with texts between them: where it gives what
-- is wanted, and where it stops.
use Rattle.std.specs.Prelude.{◌≡◌, ◌⊎◌, ℕ, List, Option, Some, None}
use Rattle.xdr.specs.Texts.Text.{IsText}
use Rattle.envelopes.specs.Envelope.{envelope_text, envelope_value}
use Rattle.envelopes.specs.Acknowledgement.{ack_text, ack_value}
use Rattle.envelopes.specs.declared.envelope.Envelope.{Envelope}
use Rattle.envelopes.specs.declared.acknowledgement.Ack.{Ack}
use Rattle.commitment.specs.Senders.LookUps.{ack_at, envelope_at}
use Rattle.commitment.specs.Senders.Sender.{IsSender, SenderParts}
use Rattle.commitment.specs.Receiver.{Finds}
use Rattle.gateway.specs.declared.links.fault.LinkFault.{LinkFault}
use Rattle.nfs_items.specs.Timeval.{Timeval}
use Rattle.secure_log.specs.LogEntries.Chain.{span}
use Rattle.node_logs.specs.Steps.Nodes.{NodeParts, next_number, next_word, receiver_of, sender_of}
use Rattle.node_logs.specs.Nodes.{LacksKeys, LacksNumbers}
use Rattle.node_logs.specs.Receiving.{ReceivesEnvelope}
use Rattle.node_logs.specs.Steps.Serving.{entries_for}
use Rattle.node_logs.specs.Steps.Logging.{with_receipt, with_send}
use Rattle.node_logs.specs.declared.outcome.Receipt.{Receipt}
use Rattle.nodes.specs.Exchanges.Exchanges.{IsAsked, IsServed}
use Rattle.nodes.specs.Faults.{Because}
use Rattle.nodes.specs.Shareds.{IsAcknowledged, IsAckRefused, IsUnderLock}

-- The bytes are the text of this envelope, or of this acknowledgement.
abbrev pub IsEnvelopeText : Envelope → List ℕ → Type 0
IsEnvelopeText e bytes = IsText envelope_text (envelope_value e) bytes

abbrev pub IsTextOfAck : Ack → List ℕ → Type 0
IsTextOfAck a bytes = IsText ack_text (ack_value a) bytes

-- ---- the client sends

-- The client sent a body to a node, and this is the text of the envelope of its SEND.
pub record IsSentAs (c : NodeParts) (to : ℕ) (body text : List ℕ) (c' : NodeParts) : Type 0 where
  pub left : ¬ LacksKeys 1 c
  pub numbers : ¬ LacksNumbers 1 c
  pub sends : c' ≡ with_send c to body
  pub sender : IsSender (sender_of c')
  pub envelope : Envelope
  pub shown : envelope_at (sender_of c') (next_number c) ≡ Some envelope
  pub from : envelope.from ≡ c.node
  pub receiver : envelope.to ≡ to
  pub numbered : envelope.seq ≡ next_word c
  pub says : envelope.body ≡ body
  pub written : IsEnvelopeText envelope text

-- It stopped before the SEND, or, out of memory for the text, after it. Failed: its log has no number for the
-- SEND.
abbrev pub StopsSending : (c : NodeParts) (to : ℕ) (body : List ℕ) → LinkFault → (c' : NodeParts) → Type 0
StopsSending c to body fault c' =
    (Because (LacksKeys 1 c) (LacksNumbers 1 c) fault × (c' ≡ c))
    ⊎ ((¬ LacksKeys 1 c) × (¬ LacksNumbers 1 c) × Because ⊥ ⊥ fault × (c' ≡ with_send c to body))

-- ---- the server answers

-- The server received an envelope that is to it.
pub record HasReceived (s : NodeParts) (time : Timeval) (e : Envelope) (r : Receipt)
    (s' : NodeParts) : Type 0 where
  pub receiver : e.to ≡ s.node
  pub left : ¬ LacksKeys 2 s
  pub numbers : ¬ LacksNumbers (entries_for e.body) s
  pub receives : ReceivesEnvelope s time e r s'

-- the envelope that a node shows at a number, or none at none
abbrev pub IsReplyAt : SenderParts → Option ℕ → Option Envelope → Type 0
IsReplyAt s None None = Unit {0}
IsReplyAt s None (Some e) = ⊥
IsReplyAt s (Some number) None = ⊥
IsReplyAt s (Some number) (Some e) = envelope_at s number ≡ Some e

-- This is the body of an envelope, and this its text; or there is none.
abbrev pub IsReplyText : Option Envelope → (reply : Option (List ℕ)) (text : List ℕ) → Type 0
IsReplyText None None text = Unit {0}
IsReplyText None (Some reply) text = ⊥
IsReplyText (Some e) None text = ⊥
IsReplyText (Some e) (Some reply) text = IsEnvelopeText e text × (reply ≡ e.body)

-- What a node shows by the numbers of a RECV and of its reply's SEND, if there is one: the acknowledgement,
-- and the reply's envelope.
pub record IsShownOf (s : NodeParts) (number : ℕ) (reply : Option ℕ) (ack : Ack) (envelope : Option Envelope)
    : Type 0 where
  pub made : ack_at (sender_of s) number ≡ Some ack
  pub at : IsReplyAt (sender_of s) reply envelope

-- The texts of both, and the reply's body.
pub record IsWrittenOf (ack : Ack) (envelope : Option Envelope) (reply : Option (List ℕ))
    (ack_bytes bytes : List ℕ)
    : Type 0 where
  pub acknowledges : IsTextOfAck ack ack_bytes
  pub replies : IsReplyText envelope reply bytes

-- The server received an envelope that is to it, and shows this acknowledgement, and this envelope of its reply, if
-- it owed one.
pub record HasAnswered (s : NodeParts) (time : Timeval) (e : Envelope) (ack : Ack) (envelope : Option Envelope)
    (s' : NodeParts) : Type 0 where
  pub receipt : Receipt
  pub received : HasReceived s time e receipt s'
  pub sender : IsSender (sender_of s')
  pub shown : IsShownOf s' receipt.ack receipt.reply ack envelope

-- It stopped before the RECV, or, out of memory for what it shows, after it. Failed: it refuses the envelope, or
-- else its log lacks numbers for what it would log.
abbrev pub StopsAnswering : (s : NodeParts) → Timeval → Envelope → (bytes : List ℕ) → LinkFault
    → (s' : NodeParts)
    → Type 0
StopsAnswering s time e bytes fault s' =
    (Because (LacksKeys 2 s) ((¬ Finds (receiver_of s) bytes e None) ⊎ LacksNumbers (entries_for e.body) s) fault
    × (s' ≡ s))
    ⊎ ((r : Receipt) × (HasReceived s time e r s' × Because ⊥ ⊥ fault))

-- ---- the call, with the server under a lock

-- The call was taken, as `IsAsked` says, and this is the text of the reply's envelope, and its body.
pub record IsAskedOf (c : NodeParts) (to : ℕ) (time : Timeval) (body : List ℕ) (reply : Option (List ℕ))
    (bytes : List ℕ) (c' : NodeParts) : Type 0 where
  pub server : NodeParts
  pub left : NodeParts
  pub lock : IsUnderLock to server left
  pub receipt : Receipt
  pub asked : IsAsked c server time body receipt c' left
  pub sender : IsSender (sender_of left)
  pub envelope : Option Envelope
  pub shown : IsReplyAt (sender_of left) receipt.reply envelope
  pub written : IsReplyText envelope reply bytes
  pub served : IsServed server time body reply left

-- ---- the client receives the reply

-- The client received a reply, and this is the text of its acknowledgement.
pub record IsReceivedAs (c : NodeParts) (e : Envelope) (bytes : List ℕ) (c' : NodeParts) : Type 0 where
  pub left : ¬ LacksKeys 1 c
  pub numbers : ¬ LacksNumbers 1 c
  pub received : c' ≡ with_receipt c e
  pub ack : Ack
  pub made : ack_at (sender_of c') (span c'.entries) ≡ Some ack
  pub written : IsTextOfAck ack bytes

-- It stopped before the RECV, or, out of memory for the acknowledgement's text, after it. Failed: it refuses the
-- reply, or else its log has no number for the RECV.
abbrev pub StopsReceiving : (c : NodeParts) → Envelope → (bytes : List ℕ) → LinkFault → (c' : NodeParts)
    → Type 0
StopsReceiving c e bytes fault c' =
    (Because (LacksKeys 1 c) ((¬ Finds (receiver_of c) bytes e None) ⊎ LacksNumbers 1 c) fault × (c' ≡ c))
    ⊎ ((¬ LacksKeys 1 c) × (¬ LacksNumbers 1 c) × (c' ≡ with_receipt c e) × Because ⊥ ⊥ fault)

-- And the server that lay under the lock then took it.
pub record IsReturnedAs (c : NodeParts) (e : Envelope) (c' : NodeParts) : Type 0 where
  pub left : ¬ LacksKeys 1 c
  pub numbers : ¬ LacksNumbers 1 c
  pub received : c' ≡ with_receipt c e
  pub acknowledged : IsAcknowledged c'

-- It stopped before the RECV, as above, or with the acknowledgement after it.
abbrev pub StopsReturning : (c : NodeParts) → Envelope → (bytes : List ℕ) → LinkFault → (c' : NodeParts)
    → Type 0
StopsReturning c e bytes fault c' =
    (Because (LacksKeys 1 c) ((¬ Finds (receiver_of c) bytes e None) ⊎ LacksNumbers 1 c) fault × (c' ≡ c))
    ⊎ ((¬ LacksKeys 1 c) × (¬ LacksNumbers 1 c) × (c' ≡ with_receipt c e)
    × Because ⊥ (IsAckRefused c') fault)
