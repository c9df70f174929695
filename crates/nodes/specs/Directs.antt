-- A link of a client and a server that are joined: what an exchange of it gives and leaves.
use Rattle.std.specs.Prelude.{◌≡◌, ◌⊎◌, Bool, true, false, List, ℕ, Option, Some, None, refl}
use Rattle.std.specs.Coded.{Coded, code_by, coded×, coded_bool}
use Rattle.authenticator.specs.declared.member.LogVersion.{LogVersion}
use Rattle.authenticator.specs.declared.member.LogVersion.TheVariants.{One, Two}
use Rattle.gateway.specs.declared.links.fault.LinkFault.{LinkFault}
use Rattle.gateway.specs.declared.links.fault.LinkFault.TheVariants.{KeysUsedUp, NoMemory, Failed}
use Rattle.nfs_items.specs.Timeval.{Timeval}
use Rattle.server_spec.specs.World.{World}
use Rattle.state_spec.specs.State.{Machine, Server, Client}
use Rattle.node_logs.specs.Steps.Nodes.{NodeParts}
use Rattle.node_logs.specs.Nodes.{LacksKeys, node_code}
use Rattle.nodes.specs.Exchanges.Exchanges.{IsCarried, IsJoined}
use Rattle.nodes.specs.Faults.{StopsCarrying}

-- what a client and a server that are joined are: both nodes, and whether an exchange had a fault
pub record DirectParts : Type 0 where
  pub client : NodeParts
  pub server : NodeParts
  pub failed : Bool

-- such values, coded by others
abbrev pub direct_code : Coded DirectParts
direct_code =
    code_by (NodeParts × (NodeParts × Bool)) (coded× node_code (coded× node_code coded_bool))
    (λ d. (d.client, (d.server, d.failed)))
    (λ p. record { client = p.0; server = p.1.0; failed = p.1.1 }) (λ _. refl)

-- the world of a server
abbrev pub world_in : Machine → Option World
world_in (Server w stage) = Some w
world_in (Client clock) = None

-- While no exchange had a fault, the two are joined.
abbrev pub IsDirect : DirectParts → Type 0
IsDirect d = d.failed ≡ false → IsJoined d.client d.server

-- the two joined
abbrev pub direct_of : NodeParts → NodeParts → DirectParts
direct_of c s = record { client = c; server = s; failed = false }

-- An exchange without a fault.
pub record IsExchanged (d : DirectParts) (time : Timeval) (body : List ℕ) (reply : Option (List ℕ))
    (d' : DirectParts) : Type 0 where
  pub before : d.failed ≡ false
  pub after : d'.failed ≡ false
  pub carried : IsCarried d.client d.server time body reply d'.client d'.server

-- An exchange with its first fault: what was done before the fault stands.
pub record IsStopped (d : DirectParts) (time : Timeval) (body : List ℕ) (fault : LinkFault) (d' : DirectParts)
    : Type 0 where
  pub before : d.failed ≡ false
  pub after : d'.failed ≡ true
  pub stops : StopsCarrying d.client d.server time body fault d'.client d'.server

-- Why an exchange isn't answered, and what is left: after a fault each is Failed, and nothing changes; else
-- Failed comes only where numbers lack, which is its first fault then.
abbrev pub StopsExchange : DirectParts → Timeval → List ℕ → LinkFault → DirectParts → Type 0
StopsExchange d time body KeysUsedUp d' = IsStopped d time body KeysUsedUp d'
StopsExchange d time body NoMemory d' = IsStopped d time body NoMemory d'
StopsExchange d time body Failed d' =
    ((d.failed ≡ true) × (d' ≡ d)) ⊎ IsStopped d time body Failed d'

-- A log of this version may come to lack numbers: one of version 2.
abbrev pub MayLackNumbers : LogVersion → Type 0
MayLackNumbers One = ⊥
MayLackNumbers Two = Unit {0}

-- The link may answer Failed from now on: it has failed, or the log of one of the two may come to lack numbers.
abbrev pub MayFail : DirectParts → Type 0
MayFail d =
    (d.failed ≡ true) ⊎ MayLackNumbers d.client.log_version ⊎ MayLackNumbers d.server.log_version

-- Keys lack: the client has none left, or the server fewer than two.
abbrev pub KeysLack : DirectParts → Type 0
KeysLack d = LacksKeys 1 d.client ⊎ LacksKeys 2 d.server

-- What holds after an exchange that answered a fault: it has failed, and KeysUsedUp came where keys lack.
abbrev pub IsFaulted : DirectParts → LinkFault → Type 0
IsFaulted d KeysUsedUp = (d.failed ≡ true) × KeysLack d
IsFaulted d NoMemory = d.failed ≡ true
IsFaulted d Failed = d.failed ≡ true
