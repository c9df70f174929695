-- An acknowledgement that is awaited is taken, or memory is refused, or a number lacks.
-- Serves: acknowledge_call, acknowledge_reply.
use Rattle.std.proofs.Common.{inl, inr, Result, sym, subst}
use Rattle.envelopes.specs.declared.acknowledgement.Ack.{Ack}
use Rattle.gateway.specs.declared.links.fault.LinkFault.{LinkFault}
use Rattle.node_logs.specs.Steps.Nodes.{NodeParts}
use Rattle.nodes.specs.Exchanges.Reaching.{IsTaken}
use Rattle.nodes.specs.Delivery.{TakesAwaited, fault_of}

-- What is taken, as the fault of a link tells it.
pub awaited : (n n' : NodeParts) (a : Ack) (answer : Result (Unit {0}) LinkFault)
    → IsTaken fault_of n a answer n'
    → TakesAwaited n a answer n'
awaited n n' a answer (inl h) =
    subst (λ (r : Result (Unit {0}) LinkFault). TakesAwaited n a r n') (sym h.0) h.1
awaited n n' a answer (inr (inl h)) =
    subst (λ (r : Result (Unit {0}) LinkFault). TakesAwaited n a r n') (sym h.0) h.1
awaited n n' a answer (inr (inr h)) =
    subst (λ (r : Result (Unit {0}) LinkFault). TakesAwaited n a r n') (sym h.0) (h.1, h.2)
