-- An exchange with a fault has failed.
-- Serves: Direct::carry.
use Rattle.std.proofs.Common.{◌≡◌, inr, ℕ, true, false, List, refl}
use Rattle.nfs_items.specs.Timeval.{Timeval}
use Rattle.gateway.specs.declared.links.fault.LinkFault.{LinkFault}
use Rattle.gateway.specs.declared.links.fault.LinkFault.TheVariants.{KeysUsedUp, NoMemory, Failed}
use Rattle.node_logs.specs.Steps.Nodes.{NodeParts}
use Rattle.nodes.specs.Faults.{StopsCarrying}
use Rattle.nodes.specs.Directs.{DirectParts, StopsExchange}

-- the two after a fault
abbrev pub failed_of : NodeParts → NodeParts → DirectParts
failed_of c s = record { client = c; server = s; failed = true }

-- what was carried so far, with a fault, as the exchange tells it
pub stops : (d : DirectParts) (time : Timeval) (body : List ℕ) (fault : LinkFault) (c s : NodeParts)
    → d.failed ≡ false
    → StopsCarrying d.client d.server time body fault c s → StopsExchange d time body fault (failed_of c s)
stops d time body KeysUsedUp c s none h = record { before = none; after = refl; stops = h }
stops d time body NoMemory c s none h = record { before = none; after = refl; stops = h }
stops d time body Failed c s none h = inr (record { before = none; after = refl; stops = h })
