-- How the log of a client with calls in flight grows.
-- Serves: SharedClient.
use Rattle.std.proofs.Common.{◌≡◌, ◌⊎◌, inl, inr, ◌∷◌, [], ℕ, List, Result, Ok, Err, subst, sym}
use Rattle.std.proofs.Math.Logic.{∥∥₁_map}
use Rattle.std.specs.Prelude.{IfErr, IfOk}
use Rattle.gateway.specs.declared.links.fault.LinkFault.{LinkFault}
use Rattle.gateway.specs.declared.links.fault.LinkFault.TheVariants.{KeysUsedUp, NoMemory, Failed}
use Rattle.commitment.specs.declared.outcome.Received.{Received}
use Rattle.commitment.specs.declared.outcome.Received.TheVariants.{New, Repeat}
use Rattle.node_logs.specs.Nodes.{LacksNumbers}
use Rattle.remote.specs.Remotes.{RemoteParts, having_called}
use Rattle.remote.specs.Calls.{StopsBeginning}
use Rattle.remote.specs.Receipts.{Receives as RemoteReceives, RefusesReceiving}
use Rattle.remote.specs.declared.fault.AcceptFault.{AcceptFault}
use Rattle.remote.specs.declared.fault.AcceptFault.TheVariants as faults
use Rattle.remote_sharing.specs.Clients.{Begins, HasGrown, LogStep, MayMake, Receives}

-- It grew by one more step.
pub grown : (step : LogStep) (r r' : RemoteParts) → HasGrown r → MayMake step r r' → HasGrown r'
grown step r r' has may = ∥∥₁_map has (λ h. (step ∷ h.0, (r, (h.1, may))))

-- No call was begun, or its SEND stands.
pub grown_unbegun : (r r' : RemoteParts) (body : List ℕ) (fault : LinkFault) → HasGrown r
    → StopsBeginning r body fault r'
    → HasGrown r'
grown_unbegun r r' body KeysUsedUp has stops = subst HasGrown (sym stops.1) has
grown_unbegun r r' body Failed has stops = subst HasGrown (sym stops.2) has
grown_unbegun r r' body NoMemory has stops = by stops.1
  where
    by : (r' ≡ r) ⊎ ((¬ LacksNumbers 1 r.client) × (r' ≡ having_called r body)) → HasGrown r'
    by (inl same) = subst HasGrown (sym same) has
    by (inr sent) = grown (Begins body) r r' has sent.1

-- Where no message was received nothing has changed.
pub same_unreceived : (r r' : RemoteParts) (bytes : List ℕ) (why : AcceptFault) → RefusesReceiving r bytes why r'
    → r' ≡ r
same_unreceived r r' bytes faults.Unanswered refused = refused.1
same_unreceived r r' bytes faults.KeysUsedUp refused = refused.1.3
same_unreceived r r' bytes faults.NoNumbers refused = refused.1.4
same_unreceived r r' bytes faults.NoMemory refused = refused
same_unreceived r r' bytes faults.NotAcknowledged refused = absurd refused
same_unreceived r r' bytes faults.AcknowledgedTwice refused = absurd refused
same_unreceived r r' bytes faults.NotOwed refused = absurd refused
same_unreceived r r' bytes (faults.AnotherCall place) refused = absurd refused
same_unreceived r r' bytes (faults.Repeated place) refused = absurd refused

-- A message was received, or wasn't.
pub grown_by_receiving : (r r' : RemoteParts) (bytes : List ℕ) (result : Result (Received ℕ) AcceptFault)
    → HasGrown r
    → IfOk result (λ x. RemoteReceives r bytes x r')
    → IfErr result (λ why. RefusesReceiving r bytes why r')
    → HasGrown r'
grown_by_receiving r r' bytes (Err why) has received refused =
    subst HasGrown (sym (same_unreceived r r' bytes why refused)) has
grown_by_receiving r r' bytes (Ok (Repeat place)) has received refused = subst HasGrown (sym received.1.2) has
grown_by_receiving r r' bytes (Ok (New place)) has received refused = grown Receives r r' has (record {
  bytes = bytes;
  envelope = received.0;
  from = received.1.from;
  new = received.1.new;
  logged = received.1.received;
})

-- Nothing has grown yet.
pub empty_has_grown : (r : RemoteParts) → r.client.entries ≡ [] → HasGrown r
empty_has_grown r none = ∣ ([], none) ∣₁
