-- The link of a connection's client to the server: its exchanges are those of a client with a server under a
-- lock, each begun only where the client has a key for the call and one for its reply.
use Rattle.std.specs.Prelude.{◌≡◌, ◌⊎◌, ◌+◌, ◌<◌, ◌^◌, List, ℕ, Option}
use Rattle.nodes.specs.gateway.declared.links.fault.LinkFault.{LinkFault}
use Rattle.nodes.specs.gateway.declared.links.fault.LinkFault.TheVariants.{KeysUsedUp}
use Rattle.nfs_items.specs.Timeval.{Timeval}
use Rattle.nodes.specs.Shareds.{IsExchanged, SharedParts, StopsExchange}

-- the client has fewer than two keys left
abbrev pub LacksKeysOfACall : SharedParts → Type 0
LacksKeysOfACall d = 2 ^ d.client.signer.height < d.client.signer.used + 2

-- An exchange without a fault: the client had the keys of a call.
pub record IsCall (d : SharedParts) (time : Timeval) (body : List ℕ) (reply : Option (List ℕ))
    (d' : SharedParts)
    : Type 0 where
  pub left : ¬ LacksKeysOfACall d
  pub exchanged : IsExchanged d time body reply d'

-- Why a call isn't answered: the client lacks the keys of one, and nothing is done; or
-- the exchange itself stops.
abbrev pub StopsCall : SharedParts → Timeval → List ℕ → LinkFault → SharedParts → Type 0
StopsCall d time body fault d' =
    (LacksKeysOfACall d × (fault ≡ KeysUsedUp) × (d' ≡ d))
    ⊎ ((¬ LacksKeysOfACall d) × StopsExchange d time body fault d')
