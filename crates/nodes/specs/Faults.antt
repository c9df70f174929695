-- How far an exchange between a client and a server comes before a fault, and what is left: first of two that
-- are joined, then of any two.
use Rattle.std.specs.Prelude.{◌≡◌, ◌⊎◌, ℕ, List, Some, Result, Ok, Err}
use Rattle.envelopes.specs.declared.envelope.Envelope.{Envelope}
use Rattle.envelopes.specs.declared.acknowledgement.Ack.{Ack}
use Rattle.commitment.specs.Senders.LookUps.{ack_at, envelope_at}
use Rattle.gateway.specs.declared.links.fault.LinkFault.{LinkFault}
use Rattle.gateway.specs.declared.links.fault.LinkFault.TheVariants.{KeysUsedUp, NoMemory, Failed}
use Rattle.nfs_items.specs.Timeval.{Timeval}
use Rattle.secure_log.specs.LogEntries.Chain.{span}
use Rattle.node_logs.specs.Steps.Nodes.{NodeParts, sender_of}
use Rattle.node_logs.specs.Nodes.{LacksKeys, LacksNumbers}
use Rattle.node_logs.specs.Steps.Serving.{entries_for}
use Rattle.nodes.specs.Exchanges.Reaching.{ServerReceipt}
use Rattle.nodes.specs.Exchanges.Exchanges.{IsAsked, IsCall, IsHeard, IsOwed, IsReceived, having_called}
use Rattle.nodes.specs.Exchanges.Laws.{IsAccepted}
use Rattle.nodes.specs.Delivery.{IsRefused}

-- ---- the call

-- How far a call came, where memory was refused.
pub data StopsAsking (c s : NodeParts) (time : Timeval) (body : List ℕ) (c' s' : NodeParts) : Type 0 where
  unsent : c' ≡ c → s' ≡ s → StopsAsking c s time body c' s'
  sent : (¬ LacksKeys 1 c) → (¬ LacksNumbers 1 c) → c' ≡ having_called c s body → s' ≡ s
      → StopsAsking c s time body c' s'
  heard : (r : ServerReceipt) → IsHeard c s time body r s' → c' ≡ having_called c s body
      → StopsAsking c s time body c' s'

-- Whose log lacked numbers for a call, with no key lacking: the client's for its SEND, and then nothing is done;
-- the server's for what it would log of the call, and then the client's SEND stands; or the client's for the ACK
-- of the call, and then the server's entries stand too.
pub data LacksAsking (c s : NodeParts) (time : Timeval) (body : List ℕ) (c' s' : NodeParts) : Type 0 where
  send_lacks : (¬ LacksKeys 1 c) → LacksNumbers 1 c → c' ≡ c → s' ≡ s → LacksAsking c s time body c' s'
  call_lacks : (¬ LacksKeys 1 c) → (¬ LacksNumbers 1 c) → (¬ LacksKeys 2 s) → LacksNumbers (entries_for body) s
      → c' ≡ having_called c s body → s' ≡ s → LacksAsking c s time body c' s'
  ack_lacks : (r : ServerReceipt) → IsHeard c s time body r s' → LacksNumbers 1 (having_called c s body)
      → c' ≡ having_called c s body → LacksAsking c s time body c' s'

-- What a call gives and leaves. KeysUsedUp comes only where the client has no key left, and then nothing is
-- done; or the server fewer than two, and then the client's SEND stands. Failed comes only where numbers lack.
abbrev pub Asks : (c s : NodeParts) → Timeval → List ℕ → Result ServerReceipt LinkFault → (c' s' : NodeParts)
    → Type 0
Asks c s time body (Ok r) c' s' = IsAsked c s time body r c' s'
Asks c s time body (Err KeysUsedUp) c' s' =
    (LacksKeys 1 c × (c' ≡ c) × (s' ≡ s))
    ⊎ ((¬ LacksKeys 1 c) × (¬ LacksNumbers 1 c) × LacksKeys 2 s × (c' ≡ having_called c s body) × (s' ≡ s))
Asks c s time body (Err NoMemory) c' s' = StopsAsking c s time body c' s'
Asks c s time body (Err Failed) c' s' = LacksAsking c s time body c' s'

-- ---- the reply

-- How far a reply came, where memory was refused.
pub data StopsReplying (c s : NodeParts) (number : ℕ) (c' s' : NodeParts) : Type 0 where
  unreceived : c' ≡ c → s' ≡ s → StopsReplying c s number c' s'
  received : (e : Envelope) → IsReceived c s number e c' → s' ≡ s → StopsReplying c s number c' s'

-- Whose log lacked a number for a reply: the client's for its RECV, with a key left, and then nothing more is
-- done; or the server's for the ACK of the reply, and then the client's RECV stands.
pub data LacksReplying (c s : NodeParts) (number : ℕ) (c' s' : NodeParts) : Type 0 where
  reply_lacks : (¬ LacksKeys 1 c) → LacksNumbers 1 c → c' ≡ c → s' ≡ s → LacksReplying c s number c' s'
  receipt_lacks : (e : Envelope) → IsReceived c s number e c' → LacksNumbers 1 s → s' ≡ s
      → LacksReplying c s number c' s'

-- Why a reply isn't brought back, and what is left then. KeysUsedUp comes only where the client has no key
-- left, and then nothing more is done: the server takes no acknowledgement of it. Failed comes only where a
-- number lacks.
abbrev pub StopsAtReply : (c s : NodeParts) (number : ℕ) → LinkFault → (c' s' : NodeParts) → Type 0
StopsAtReply c s number KeysUsedUp c' s' = LacksKeys 1 c × (c' ≡ c) × (s' ≡ s)
StopsAtReply c s number NoMemory c' s' = StopsReplying c s number c' s'
StopsAtReply c s number Failed c' s' = LacksReplying c s number c' s'

-- ---- both

-- It had a fault with the call, or with the reply that the call owes.
abbrev pub StopsCarrying : (c s : NodeParts) → Timeval → List ℕ → LinkFault → (c' s' : NodeParts) → Type 0
StopsCarrying c s time body fault c' s' =
    Asks c s time body (Err fault) c' s'
    ⊎ ((number : ℕ) × ((d : NodeParts) × ((t : NodeParts) ×
    (IsOwed c s time body number d t × StopsAtReply d t number fault c' s'))))

-- ---- any two: where they aren't joined, one may refuse the other, and the fault is Failed too

-- Who refused what the other showed of a call, once the client had sent it: the server the call, or the
-- client the server's acknowledgement, after which the server's entries stand.
pub data RefusesAsking (c s : NodeParts) (time : Timeval) (body : List ℕ) (c' s' : NodeParts) : Type 0 where
  call_refused : (e : Envelope) (bytes : List ℕ) → (¬ LacksKeys 1 c) → (¬ LacksNumbers 1 c)
      → IsCall c s body e → IsRefused s bytes e → s' ≡ s → RefusesAsking c s time body c' s'
  ack_refused : (r : ServerReceipt) (a : Ack) → IsHeard c s time body r s'
      → ack_at (sender_of s') r.ack ≡ Some a → (¬ IsAccepted c' a) → RefusesAsking c s time body c' s'

-- What a call gives and leaves. Failed comes only where numbers lack, or once the client has sent, where one
-- refuses what the other shows.
abbrev pub MayAsk : (c s : NodeParts) → Timeval → List ℕ → Result ServerReceipt LinkFault
    → (c' s' : NodeParts)
    → Type 0
MayAsk c s time body (Ok r) c' s' = IsAsked c s time body r c' s'
MayAsk c s time body (Err KeysUsedUp) c' s' =
    (LacksKeys 1 c × (c' ≡ c) × (s' ≡ s))
    ⊎ ((¬ LacksKeys 1 c) × (¬ LacksNumbers 1 c) × LacksKeys 2 s × (c' ≡ having_called c s body) × (s' ≡ s))
MayAsk c s time body (Err NoMemory) c' s' = StopsAsking c s time body c' s'
MayAsk c s time body (Err Failed) c' s' =
    LacksAsking c s time body c' s' ⊎ ((c' ≡ having_called c s body) × RefusesAsking c s time body c' s')

-- Who refused what the other showed of a reply: the client the reply, or the server the client's
-- acknowledgement, after which the client's entry stands.
pub data RefusesReplying (c s : NodeParts) (number : ℕ) (c' s' : NodeParts) : Type 0 where
  reply_refused : (e : Envelope) (bytes : List ℕ) → envelope_at (sender_of s) number ≡ Some e
      → IsRefused c bytes e → c' ≡ c → s' ≡ s → RefusesReplying c s number c' s'
  receipt_refused : (e : Envelope) (a : Ack) → IsReceived c s number e c'
      → ack_at (sender_of c') (span c'.entries) ≡ Some a → (¬ IsAccepted s a) → s' ≡ s
      → RefusesReplying c s number c' s'

-- Why a reply isn't brought back, and what is left then: Failed only where a number lacks, or one refuses what
-- the other shows.
abbrev pub MayStopAtReply : (c s : NodeParts) (number : ℕ) → LinkFault → (c' s' : NodeParts) → Type 0
MayStopAtReply c s number KeysUsedUp c' s' = LacksKeys 1 c × (c' ≡ c) × (s' ≡ s)
MayStopAtReply c s number NoMemory c' s' = StopsReplying c s number c' s'
MayStopAtReply c s number Failed c' s' = LacksReplying c s number c' s' ⊎ RefusesReplying c s number c' s'

-- A fault with the call, or with the reply that the call owes.
abbrev pub MayStop : (c s : NodeParts) → Timeval → List ℕ → LinkFault → (c' s' : NodeParts) → Type 0
MayStop c s time body fault c' s' =
    MayAsk c s time body (Err fault) c' s'
    ⊎ ((number : ℕ) × ((d : NodeParts) × ((t : NodeParts) ×
    (IsOwed c s time body number d t × MayStopAtReply d t number fault c' s'))))

-- ---- one step of an exchange

-- Why a step stops: KeysUsedUp only where these keys lack, Failed only where this is refused, or these numbers
-- lack, NoMemory where memory was refused.
abbrev pub Because : (lacks refused : Type 0) → LinkFault → Type 0
Because lacks refused KeysUsedUp = lacks
Because lacks refused NoMemory = Unit {0}
Because lacks refused Failed = refused
