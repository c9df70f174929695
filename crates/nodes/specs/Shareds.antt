-- A link of a client and a server under a lock, which others use too: what an exchange of it gives and
-- leaves. The lock is taken for what the server does alone: it receives the call, and, where it owed a reply,
-- takes the client's acknowledgement of it later. What others do to the server between the two is open.
use Rattle.std.specs.Prelude.{◌≡◌, ◌⊎◌, Bool, true, false, List, ℕ, Option, Some, None, refl}
use Rattle.std.specs.Coded.{Coded, code_by, coded×, coded_ℕ, coded_bool}
use Rattle.envelopes.specs.declared.envelope.Envelope.{Envelope}
use Rattle.envelopes.specs.declared.acknowledgement.Ack.{Ack}
use Rattle.commitment.specs.Senders.LookUps.{ack_at}
use Rattle.gateway.specs.declared.links.fault.LinkFault.{LinkFault}
use Rattle.gateway.specs.declared.links.fault.LinkFault.TheVariants.{Failed}
use Rattle.nfs_items.specs.Timeval.{Timeval}
use Rattle.secure_log.specs.LogEntries.Chain.{span}
use Rattle.node_logs.specs.Steps.Nodes.{NodeParts, IsHonest, sender_of}
use Rattle.node_logs.specs.Steps.Logging.{with_send}
use Rattle.node_logs.specs.Nodes.{LacksKeys, LacksNumbers, node_code}
use Rattle.node_logs.specs.AckTaking.{with_ack}
use Rattle.node_logs.specs.Steps.Serving.{entries_for}
use Rattle.node_logs.specs.declared.outcome.Receipt.{Receipt}
use Rattle.nodes.specs.Exchanges.Exchanges.{IsAsked, IsHeard, IsJoined, IsOwed, IsReceived, IsServed}
use Rattle.nodes.specs.Exchanges.Exchanges.{having_called}
use Rattle.nodes.specs.Exchanges.Laws.{IsAccepted}
use Rattle.nodes.specs.Faults.{Because}

-- A server that hasn't strayed: its log is honest, and it won't lie.
pub record HasNotStrayed (s : NodeParts) : Type 0 where
  pub straight : s.strayed ≡ false
  pub plain : s.lies ≡ false
  pub honest : IsHonest s

-- what the link is of itself: its client, the number of the server that it calls, and whether an exchange
-- had a fault
pub record SharedParts : Type 0 where
  pub client : NodeParts
  pub to : ℕ
  pub failed : Bool

-- such values, coded by others
abbrev pub shared_code : Coded SharedParts
shared_code =
    code_by (NodeParts × (ℕ × Bool)) (coded× node_code (coded× coded_ℕ coded_bool))
    (λ d. (d.client, (d.to, d.failed)))
    (λ p. record { client = p.0; to = p.1.0; failed = p.1.1 }) (λ _. refl)

-- the link of a client to the server of a number
abbrev pub shared_of : NodeParts → ℕ → SharedParts
shared_of c to = record { client = c; to = to; failed = false }

-- ---- an exchange

-- Under the lock lay a server of this number, `s`, and it was left as `s'`; neither has strayed.
pub record IsUnderLock (to : ℕ) (s s' : NodeParts) : Type 0 where
  pub called : s.node ≡ to
  pub straight : HasNotStrayed s
  pub stays : HasNotStrayed s'

-- A server that lay under the lock took the acknowledgement that the client's log shows of its last entry, a
-- RECV, and was left as `left`; neither has strayed.
pub record IsAcknowledged (c : NodeParts) : Type 0 where
  pub ack : Ack
  pub made : ack_at (sender_of c) (span c.entries) ≡ Some ack
  pub server : NodeParts
  pub straight : HasNotStrayed server
  pub left : NodeParts
  pub stays : HasNotStrayed left
  pub taken : left ≡ with_ack server ack

-- The client received the reply that a server sent at a number, and what lay under the lock later took its
-- acknowledgement. The reply is the body that was sent.
pub record IsReturned (c s : NodeParts) (number : ℕ) (reply : List ℕ) (c' : NodeParts) : Type 0 where
  pub envelope : Envelope
  pub received : IsReceived c s number envelope c'
  pub body : reply ≡ envelope.body
  pub acknowledged : IsAcknowledged c'

-- The call was taken and its reply brought back, where one is owed: `s` is what lay under the lock first, and
-- `s'` what it was left as. Where none is owed the lock isn't taken again.
abbrev pub IsCarriedBy : (c s : NodeParts) → Timeval → List ℕ → Option (List ℕ) → (c' s' : NodeParts) → Type 0
IsCarriedBy c s time body None c' s' = (r : Receipt) × (IsAsked c s time body r c' s' × (r.reply ≡ None))
IsCarriedBy c s time body (Some reply) c' s' =
    (number : ℕ) × ((d : NodeParts) × (IsOwed c s time body number d s' × IsReturned d s' number reply c'))

-- A client's call to the server of a number, which lies under a lock: what it made of the server is this call
-- and nothing else, and the reply is the one owed.
pub record IsCalled (c : NodeParts) (to : ℕ) (time : Timeval) (body : List ℕ) (reply : Option (List ℕ))
    (c' : NodeParts)
    : Type 0 where
  pub server : NodeParts
  pub left : NodeParts
  pub lock : IsUnderLock to server left
  pub carried : IsCarriedBy c server time body reply c' left
  pub served : IsServed server time body reply left

-- An exchange without a fault.
pub record IsExchanged (d : SharedParts) (time : Timeval) (body : List ℕ) (reply : Option (List ℕ))
    (d' : SharedParts) : Type 0 where
  pub before : d.failed ≡ false
  pub after : d'.failed ≡ false
  pub same : d'.to ≡ d.to
  pub called : IsCalled d.client d.to time body reply d'.client

-- ---- faults

-- A server that lay under the lock doesn't accept the acknowledgement that the client's log shows of its last
-- entry, a RECV: it fits none of its SENDs, or isn't signed by a member of its roster, or isn't awaited; or else
-- the server's log has no number for the ACK. The server stays as it is.
pub record IsAckRefused (c : NodeParts) : Type 0 where
  pub ack : Ack
  pub made : ack_at (sender_of c) (span c.entries) ≡ Some ack
  pub server : NodeParts
  pub straight : HasNotStrayed server
  pub refuses : (¬ IsAccepted server ack) ⊎ LacksNumbers 1 server

-- How far a client's call came before its fault, with what lay under the lock, and what that was left as.
pub data StopsCalling (c : NodeParts) (to : ℕ) (time : Timeval) (body : List ℕ) (fault : LinkFault)
    (c' : NodeParts)
    : Type 0 where
  -- Nothing was sent, and no lock taken. Failed: the client's log has no number for the SEND.
  unsent : Because (LacksKeys 1 c) (LacksNumbers 1 c) fault → c' ≡ c → StopsCalling c to time body fault c'
  -- The client sent, and was out of memory for the text. No lock was taken.
  sent : (¬ LacksKeys 1 c) → (¬ LacksNumbers 1 c) → Because ⊥ ⊥ fault → c' ≡ with_send c to body
      → StopsCalling c to time body fault c'
  -- The server didn't receive it, and was left as it was. Where it has the number and the two are joined, it
  -- doesn't refuse it; Failed comes then only where its log lacks numbers for what it would log.
  unheard : (server : NodeParts) → HasNotStrayed server → (¬ LacksKeys 1 c) → (¬ LacksNumbers 1 c)
      → Because (LacksKeys 2 server)
      ((¬ ((server.node ≡ to) × IsJoined c server)) ⊎ LacksNumbers (entries_for body) server) fault
      → c' ≡ with_send c to body
      → StopsCalling c to time body fault c'
  -- The server received it, and was out of memory for what it shows; or the client didn't take the
  -- acknowledgement.
  -- Where the two are joined, it doesn't refuse it; Failed comes then only where its log has no number for the
  -- ACK.
  heard : (server left : NodeParts) (r : Receipt) → IsUnderLock to server left
      → IsHeard c server time body r left
      → Because ⊥ ((¬ IsJoined c server) ⊎ LacksNumbers 1 c') fault → c' ≡ having_called c server body
      → StopsCalling c to time body fault c'
  -- The client took the acknowledgement, and not the reply. Where the two are joined, it doesn't refuse it;
  -- Failed comes then only where its log has no number for the RECV.
  asked : (server left : NodeParts) (number : ℕ) → IsUnderLock to server left
      → IsOwed c server time body number c' left
      → Because (LacksKeys 1 c') ((¬ IsJoined c server) ⊎ LacksNumbers 1 c') fault
      → StopsCalling c to time body fault c'
  -- It received the reply, and was out of memory for its acknowledgement's text, and took no lock; or what
  -- lay under the lock didn't take it.
  received : (server left d : NodeParts) (number : ℕ) (e : Envelope) → IsUnderLock to server left
      → IsOwed c server time body number d left → IsReceived d left number e c'
      → Because ⊥ (IsAckRefused c') fault → StopsCalling c to time body fault c'

-- An exchange with its first fault: what was done before the fault stands.
pub record IsStopped (d : SharedParts) (time : Timeval) (body : List ℕ) (fault : LinkFault) (d' : SharedParts)
    : Type 0 where
  pub before : d.failed ≡ false
  pub after : d'.failed ≡ true
  pub same : d'.to ≡ d.to
  pub stops : StopsCalling d.client d.to time body fault d'.client

-- Why an exchange isn't answered, and what is left: after a fault each is Failed, no lock is taken, and
-- nothing changes.
abbrev pub StopsExchange : SharedParts → Timeval → List ℕ → LinkFault → SharedParts → Type 0
StopsExchange d time body fault d' =
    IsStopped d time body fault d' ⊎ ((d.failed ≡ true) × (fault ≡ Failed) × (d' ≡ d))
