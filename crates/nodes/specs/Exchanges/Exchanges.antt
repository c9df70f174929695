-- What an exchange is, between a client and a server that are joined without anyone between them: the client
-- logs SEND; the server RECV, CLOCK and the SEND of its reply, if one is owed; the client takes the server's
-- acknowledgement (ACK), and then the reply (RECV); the server takes the client's acknowledgement (ACK).
use Rattle.std.specs.Prelude.{◌≡◌, ◌≢◌, ℕ, false, List, [], Option, Some, None}
use Rattle.authenticator.specs.declared.member.Kind.TheVariants as kinds
use Rattle.authenticator.specs.Numbers.{number_in}
use Rattle.secure_log.specs.LogEntries.Chain.{span}
use Rattle.envelopes.specs.declared.envelope.Envelope.{Envelope}
use Rattle.envelopes.specs.declared.acknowledgement.Ack.{Ack}
use Rattle.commitment.specs.Senders.LookUps.{ack_at, envelope_at}
use Rattle.nfs_items.specs.Timeval.{Timeval}
use Rattle.server_spec.specs.World.{World}
use Rattle.server_spec.specs.Replies.{reply_owed, world_after}
use Rattle.state_spec.specs.State.{Idle, Server}
use Rattle.node_logs.specs.Steps.Nodes.{NodeParts, next_number, next_word, sender_of}
use Rattle.node_logs.specs.Nodes.{LacksKeys, LacksNumbers}
use Rattle.node_logs.specs.Receiving.{ReceivesEnvelope}
use Rattle.node_logs.specs.Steps.Serving.{entries_for}
use Rattle.node_logs.specs.Steps.Logging.{with_receipt, with_send}
use Rattle.node_logs.specs.AckTaking.{with_ack}
use Rattle.node_logs.specs.declared.outcome.Receipt.{Receipt}
use Rattle.nodes.specs.Exchanges.Members.{IsListed}
use Rattle.nodes.specs.Exchanges.Reaching.{ReceivesUpTo}

-- A client and a server are joined: two nodes, each listed in the other's roster, of which neither received a
-- message of the other whose number the other's log hasn't reached; and the server won't lie. What either
-- received of others is open.
pub record IsJoined (c s : NodeParts) : Type 0 where
  pub two : c.node ≢ s.node
  pub client : IsListed s.roster kinds.Client c
  pub server : IsListed c.roster kinds.Server s
  pub heard : ReceivesUpTo c.log_version c.node (span c.entries) s.entries
  pub received : ReceivesUpTo s.log_version s.node (span s.entries) c.entries
  pub plain : s.lies ≡ false

-- A client and a server that may be joined: nothing is logged yet, they are two nodes, each is listed in the
-- other's roster, and the server won't lie.
pub record MayJoin (c s : NodeParts) : Type 0 where
  pub unused : c.entries ≡ []
  pub server_unused : s.entries ≡ []
  pub two : c.node ≢ s.node
  pub client : IsListed s.roster kinds.Client c
  pub server : IsListed c.roster kinds.Server s
  pub plain : s.lies ≡ false

-- ---- the call

-- the client that has sent a body to the server
abbrev pub having_called : NodeParts → NodeParts → List ℕ → NodeParts
having_called c s body = with_send c s.node body

-- The envelope of the call: from the client to the server, of the SEND that the client logged last, with its
-- word, which stands for its number in the client's log, and with this body.
pub record IsCall (c s : NodeParts) (body : List ℕ) (e : Envelope) : Type 0 where
  pub shown : envelope_at (sender_of (having_called c s body)) (next_number c) ≡ Some e
  pub sender : e.from ≡ c.node
  pub receiver : e.to ≡ s.node
  pub numbered : e.seq ≡ next_word c
  pub stands : number_in c.log_version e.seq ≡ next_number c
  pub says : e.body ≡ body

-- The client sent a body, and the server received it.
pub record IsHeard (c s : NodeParts) (time : Timeval) (body : List ℕ) (r : Receipt) (s' : NodeParts)
    : Type 0 where
  pub left : ¬ LacksKeys 1 c
  pub numbers : ¬ LacksNumbers 1 c
  pub envelope : Envelope
  pub call : IsCall c s body envelope
  pub server_left : ¬ LacksKeys 2 s
  pub server_numbers : ¬ LacksNumbers (entries_for body) s
  pub receives : ReceivesEnvelope s time envelope r s'

-- And the client took the server's acknowledgement.
pub record IsAsked (c s : NodeParts) (time : Timeval) (body : List ℕ) (r : Receipt) (c' s' : NodeParts)
    : Type 0 where
  pub heard : IsHeard c s time body r s'
  pub ack : Ack
  pub made : ack_at (sender_of s') r.ack ≡ Some ack
  pub taken : c' ≡ with_ack (having_called c s body) ack

-- ---- the reply

-- The client received the reply that the server sent at a number.
pub record IsReceived (c s : NodeParts) (number : ℕ) (e : Envelope) (c' : NodeParts) : Type 0 where
  pub envelope : envelope_at (sender_of s) number ≡ Some e
  pub left : ¬ LacksKeys 1 c
  pub numbers : ¬ LacksNumbers 1 c
  pub received : c' ≡ with_receipt c e

-- And the server took the client's acknowledgement. The reply is the body that was sent.
pub record IsReplied (c s : NodeParts) (number : ℕ) (reply : List ℕ) (c' s' : NodeParts) : Type 0 where
  pub envelope : Envelope
  pub received : IsReceived c s number envelope c'
  pub body : reply ≡ envelope.body
  pub ack : Ack
  pub made : ack_at (sender_of c') (span c'.entries) ≡ Some ack
  pub taken : s' ≡ with_ack s ack

-- ---- both

-- The call was taken, and the server owes its reply at a number.
pub record IsOwed (c s : NodeParts) (time : Timeval) (body : List ℕ) (number : ℕ) (c' s' : NodeParts)
    : Type 0 where
  pub receipt : Receipt
  pub asked : IsAsked c s time body receipt c' s'
  pub owed : receipt.reply ≡ Some number

-- The call was taken and its reply brought back, where one is owed.
abbrev pub IsCarried : (c s : NodeParts) → Timeval → List ℕ → Option (List ℕ) → (c' s' : NodeParts) → Type 0
IsCarried c s time body None c' s' = (r : Receipt) × (IsAsked c s time body r c' s' × (r.reply ≡ None))
IsCarried c s time body (Some reply) c' s' =
    (number : ℕ) × ((d : NodeParts) × ((t : NodeParts) ×
    (IsOwed c s time body number d t × IsReplied d t number reply c' s')))

-- What the server did with a body: it answered what is owed to it at that time, and its world is the one
-- after that.
pub record IsServed (s : NodeParts) (time : Timeval) (body : List ℕ) (reply : Option (List ℕ))
    (s' : NodeParts) : Type 0 where
  pub world : World
  pub idle : s.state.machine ≡ Server world Idle
  pub owed : reply ≡ reply_owed world time body
  pub after : s'.state.machine ≡ Server (world_after world time body) Idle
