-- Faults of a call, by those of its exchange.
-- Serves: ClientLink's exchange.
use Rattle.std.proofs.Common.{inr, ℕ, List, Result, Ok, Err}
use Rattle.std.specs.Prelude.{IfErr}
use Rattle.nodes.specs.gateway.declared.links.fault.LinkFault.{LinkFault}
use Rattle.nfs_items.specs.Timeval.{Timeval}
use Rattle.nodes.specs.Shareds.{SharedParts, StopsExchange}
use Rattle.serving.specs.Links.{LacksKeysOfACall, StopsCall}

-- Where the client has the keys of a call, the call stops as the exchange does.
pub stopped : {A : Type 0} (d : SharedParts) (time : Timeval) (body : List ℕ) (result : Result A LinkFault)
    (d' : SharedParts) → (¬ LacksKeysOfACall d) → IfErr result (λ e. StopsExchange d time body e d')
    → IfErr result (λ e. StopsCall d time body e d')
stopped d time body (Ok x) d' left stops = tt
stopped d time body (Err e) d' left stops = inr (left, stops)
