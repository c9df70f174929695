-- What holds of a client and a server that are joined: each law is the contract of a function in
-- src/exchanges/laws.rt.
use Rattle.std.specs.Prelude.{◌≡◌, ℕ, List, Some, None, IsSome}
use Rattle.std.specs.FinMap.{get}
use Rattle.xdr.specs.Texts.Text.{IsText}
use Rattle.authenticator.specs.Signed.{IsSignedIn}
use Rattle.envelopes.specs.Acknowledgement.{ack_shows}
use Rattle.envelopes.specs.Envelope.{envelope_text, envelope_value}
use Rattle.envelopes.specs.declared.envelope.Envelope.{Envelope}
use Rattle.envelopes.specs.declared.acknowledgement.Ack.{Ack}
use Rattle.commitment.specs.Senders.LookUps.{FitsSend, ack_at}
use Rattle.commitment.specs.Receiver.{Finds}
use Rattle.commitment.specs.Senders.Sender.{IsSender}
use Rattle.nfs_items.specs.Timeval.{Timeval}
use Rattle.node_logs.specs.Steps.Nodes.{NodeParts, receiver_of, sender_of}
use Rattle.node_logs.specs.Receiving.{ReceivesEnvelope}
use Rattle.node_logs.specs.declared.outcome.Receipt.{Receipt}
use Rattle.nodes.specs.Exchanges.Exchanges.{IsAsked, IsCall, IsJoined, IsOwed, IsReplied, IsServed, MayJoin}
use Rattle.nodes.specs.Exchanges.Exchanges.{having_called}

-- ---- joined

-- A client and a server that may be joined are joined.
abbrev pub JoinedAtFirst : Type 0
JoinedAtFirst = (c s : NodeParts) → MayJoin c s → IsJoined c s

-- ---- what one accepts of the other

-- The text of a call's envelope opens at the server, and its message is new there.
abbrev pub CallsAreAccepted : Type 0
CallsAreAccepted =
    (c s : NodeParts) (body bytes : List ℕ) (e : Envelope) → IsJoined c s
    → IsSender (sender_of (having_called c s body)) → IsCall c s body e
    → IsText envelope_text (envelope_value e) bytes → Finds (receiver_of s) bytes e None

-- An acknowledgement fits a SEND of a node, is signed by a member that it knows, and is awaited.
pub record IsAccepted (n : NodeParts) (a : Ack) : Type 0 where
  pub fits : FitsSend (sender_of n) a
  pub signed : IsSignedIn n.roster (ack_shows a)
  pub awaited : IsSome (get n.state.sends a.seq)

-- Such is what the server shows of a call.
abbrev pub AcksAreAccepted : Type 0
AcksAreAccepted =
    (c s t : NodeParts) (body : List ℕ) (e : Envelope) (time : Timeval) (r : Receipt) (a : Ack) → IsJoined c s
    → IsCall c s body e → ReceivesEnvelope s time e r t → IsSender (sender_of t)
    → ack_at (sender_of t) r.ack ≡ Some a → IsAccepted (having_called c s body) a

-- ---- what an exchange gives

-- An exchange with a reply gives the one that is owed, and the two stay joined.
abbrev pub RepliesAreOwed : Type 0
RepliesAreOwed =
    (c s d t c' s' : NodeParts) (time : Timeval) (body : List ℕ) (number : ℕ) (reply : List ℕ) → IsJoined c s
    → IsOwed c s time body number d t → IsSender (sender_of t) → IsReplied d t number reply c' s'
    → IsServed s time body (Some reply) s' × IsJoined c' s'

-- An exchange without one owes none, and the two stay joined.
abbrev pub NoReplyIsOwed : Type 0
NoReplyIsOwed =
    (c s c' s' : NodeParts) (time : Timeval) (body : List ℕ) (r : Receipt) → IsJoined c s
    → IsAsked c s time body r c' s' → r.reply ≡ None → IsServed s time body None s' × IsJoined c' s'
