-- A client that has several calls in flight, and how its log grows.
use Rattle.std.specs.Prelude.{◌≡◌, ◌+◌, ◌∷◌, ◌++◌, ◌==◌, [], ℕ, List, Contains, filter, length, not, refl}
use Rattle.std.specs.Coded.{Coded, code_by, coded×, coded_ℕ, coded_list}
use Rattle.commitment.specs.declared.outcome.Received.{Received}
use Rattle.gateway.specs.declared.links.fault.LinkFault.{LinkFault}
use Rattle.gateway.specs.declared.links.fault.LinkFault.TheVariants.{KeysUsedUp, NoMemory, Failed}
use Rattle.node_logs.specs.Nodes.{LacksKeys}
use Rattle.remote.specs.Remotes.{RemoteParts, having_called, remote_code}
use Rattle.remote.specs.Calls.{IsBegun, IsCallOf, StopsBeginning}
use Rattle.remote.specs.Answers.{LogsNoMore, LogsReply}
use Rattle.remote.specs.Receipts.{Receives as RemoteReceives, RefusesReceiving}
use Rattle.remote.specs.declared.fault.AcceptFault.{AcceptFault}
use Rattle.remote.specs.declared.fault.AcceptFault.TheVariants as faults

-- what it is: the client, and the numbers of its calls in flight, each of which may still take a key for its reply
pub record ClientParts : Type 0 where
  pub remote : RemoteParts
  pub waiting : List ℕ

-- such values, coded by others
abbrev pub client_code : Coded ClientParts
client_code =
    code_by (RemoteParts × List ℕ) (coded× remote_code (coded_list coded_ℕ)) (λ c. (c.remote, c.waiting))
    (λ p. record { remote = p.0; waiting = p.1 }) (λ _. refl)

-- ---- how its log grows

-- What is done with it: a call is begun, what came back for the call with a number is taken, or a message for which
-- no call waits is received.
pub data LogStep : Type 0 where
  Begins : (body : List ℕ) → LogStep
  Takes : (number : ℕ) → LogStep
  Receives : LogStep

-- What its log may have more after such a step: the SEND of the call; the ACK of that call, and a RECV of a message
-- that the server signed; such a RECV. Each of an ACK and a RECV may also be lacking.
abbrev pub MayMake : LogStep → RemoteParts → RemoteParts → Type 0
MayMake (Begins body) r r' = r' ≡ having_called r body
MayMake (Takes number) r r' = LogsNoMore r number r'
MayMake Receives r r' = LogsReply r r'

-- Its log was empty, and grew by these steps, newest first, and by nothing else.
abbrev pub Grew : List LogStep → RemoteParts → Type 0
Grew [] r = r.client.entries ≡ []
Grew (step ∷ older) r = (before : RemoteParts) × (Grew older before × MayMake step before r)

-- Its log grew by such steps alone.
abbrev pub HasGrown : RemoteParts → Type 0
HasGrown r = ∥ ((steps : List LogStep) × Grew steps r) ∥₁

-- ---- a call that is begun beside others

-- A call is begun, with a key left for it, for its reply, and for the reply of each call in flight. It is in flight.
pub record BeginsBeside (c : ClientParts) (body : List ℕ) (number : ℕ) (text : List ℕ) (c' : ClientParts) : Type 0 where
  pub left : ¬ LacksKeys (2 + length c.waiting) c.remote.client
  pub begun : IsBegun c.remote body number text c'.remote
  pub waits : c'.waiting ≡ c.waiting ++ number ∷ []

-- Why none is begun, and what is left: KeysUsedUp exactly where fewer keys are left, and nothing has changed; else as
-- of a client without calls in flight.
abbrev pub StopsBeside : ClientParts → (body : List ℕ) → LinkFault → ClientParts → Type 0
StopsBeside c body KeysUsedUp c' = LacksKeys (2 + length c.waiting) c.remote.client × (c' ≡ c)
StopsBeside c body Failed c' =
    (¬ LacksKeys (2 + length c.waiting) c.remote.client) × StopsBeginning c.remote body Failed c'.remote
    × (c'.waiting ≡ c.waiting)
StopsBeside c body NoMemory c' =
    (¬ LacksKeys (2 + length c.waiting) c.remote.client) × StopsBeginning c.remote body NoMemory c'.remote
    × (c'.waiting ≡ c.waiting)

-- The call with a number is in flight, and stands in the log, as a SEND of this very body.
pub record IsInFlight (c : ClientParts) (number : ℕ) (body : List ℕ) : Type 0 where
  pub waits : Contains c.waiting number
  pub stands : IsCallOf c.remote number body

-- the calls in flight but this one
abbrev pub without : (number : ℕ) → List ℕ → List ℕ
without number waiting = filter (λ n. not (n == number)) waiting

-- ---- a message for which no call waits

-- It is received beside the calls in flight, with a key left for the reply to each.
pub record ReceivesBeside (c : ClientParts) (bytes : List ℕ) (received : Received ℕ) (c' : ClientParts) : Type 0 where
  pub left : ¬ LacksKeys (1 + length c.waiting) c.remote.client
  pub receives : RemoteReceives c.remote bytes received c'.remote
  pub waits : c'.waiting ≡ c.waiting

-- Why it isn't, and nothing has changed: KeysUsedUp exactly where fewer keys are left; else as of a client without calls
-- in flight.
abbrev pub RefusesBeside : ClientParts → (bytes : List ℕ) → AcceptFault → ClientParts → Type 0
RefusesBeside c bytes faults.KeysUsedUp c' = LacksKeys (1 + length c.waiting) c.remote.client × (c' ≡ c)
RefusesBeside c bytes fault c' =
    (¬ LacksKeys (1 + length c.waiting) c.remote.client) × RefusesReceiving c.remote bytes fault c'.remote × (c' ≡ c)
