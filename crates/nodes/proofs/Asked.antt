-- What a call gives, and where it stops.
-- Serves: ask.
use Rattle.std.proofs.Common.{inr, ℕ, List, Result, Ok, Err, sym, subst}
use Rattle.authenticator.specs.declared.member.Kind.TheVariants as kinds
use Rattle.envelopes.specs.declared.envelope.Envelope.{Envelope}
use Rattle.envelopes.specs.declared.acknowledgement.Ack.{Ack}
use Rattle.commitment.specs.Senders.Sender.{IsSender}
use Rattle.nfs_items.specs.Timeval.{Timeval}
use Rattle.node_logs.specs.Steps.Nodes.{NodeParts, sender_of}
use Rattle.node_logs.specs.Nodes.{LacksNumbers}
use Rattle.node_logs.specs.Steps.Serving.{entries_for}
use Rattle.gateway.specs.declared.links.fault.LinkFault.{LinkFault}
use Rattle.gateway.specs.declared.links.fault.LinkFault.TheVariants.{KeysUsedUp, NoMemory, Failed}
use Rattle.nodes.specs.Exchanges.Reaching.{AckReaches, Reaches, ServerReceipt}
use Rattle.nodes.specs.Exchanges.Exchanges.{IsAsked, IsHeard, IsJoined, having_called}
use Rattle.nodes.proofs.OfExchanges.Called.{IsSentBy, call_acknowledged}
use Rattle.nodes.specs.Delivery.{ReceivesNew, TakesAwaited}
use Rattle.nodes.specs.Faults.{Asks, ack_lacks, call_lacks, heard, sent}

-- the server doesn't receive it
pub asks_err : (c s : NodeParts) (time : Timeval) (body : List ℕ) (c1 s1 : NodeParts) (number : ℕ)
    (fault : LinkFault)
    → (h : IsSentBy c s body c1 number)
    → ((e : Envelope) → Reaches c1 kinds.Client number s e → ReceivesNew s time e (Err fault) s1)
    → Asks c s time body (Err fault) c1 s1
asks_err c s time body c1 s1 number fault h receives = by fault (receives h.envelope h.reaches)
  where
    by : (f : LinkFault) → ReceivesNew s time h.envelope (Err f) s1 → Asks c s time body (Err f) c1 s1
    by KeysUsedUp x = inr (h.left, h.numbers, x.0, h.is, x.1)
    by NoMemory x = sent h.left h.numbers h.is x
    by Failed x =
        call_lacks h.left h.numbers x.0
        (subst (λ (b : List ℕ). LacksNumbers (entries_for b) s) h.call.says x.1) h.is x.2

-- it receives it
pub is_heard : (c s : NodeParts) (time : Timeval) (body : List ℕ) (c1 s1 : NodeParts) (number : ℕ)
    (r : ServerReceipt)
    → IsSentBy c s body c1 number
    → ((e : Envelope) → Reaches c1 kinds.Client number s e → ReceivesNew s time e (Ok r) s1)
    → IsHeard c s time body r s1
is_heard c s time body c1 s1 number r h receives =
    let x = receives h.envelope h.reaches in
    record {
      left = h.left;
      numbers = h.numbers;
      envelope = h.envelope;
      call = h.call;
      server_left = x.0;
      server_numbers = subst (λ (b : List ℕ). ¬ LacksNumbers (entries_for b) s) h.call.says x.1;
      receives = x.2;
    }

-- and the client takes its acknowledgement, or is refused memory, or lacks a number
pub asks_answered : (c s : NodeParts) (time : Timeval) (body : List ℕ) (c1 s1 c2 : NodeParts) (number : ℕ)
    (r : ServerReceipt)
    (answer : Result (Unit {0}) LinkFault) → IsJoined c s → IsSentBy c s body c1 number
    → IsHeard c s time body r s1
    → IsSender (sender_of s1)
    → ((a : Ack) → AckReaches s1 kinds.Server r.ack c1 a → TakesAwaited c1 a answer c2)
    → (a : Ack) × (AckReaches s1 kinds.Server r.ack (having_called c s body) a
    × TakesAwaited (having_called c s body) a answer c2)
asks_answered c s time body c1 s1 c2 number r answer joined h done is takes =
    let x = call_acknowledged c s s1 body done.envelope time r joined done.call done.receives is in
    let there : AckReaches s1 kinds.Server r.ack c1 x.0 =
    subst (λ (n : NodeParts). AckReaches s1 kinds.Server r.ack n x.0) (sym h.is) x.1 in
    (x.0, (x.1, subst (λ (n : NodeParts). TakesAwaited n x.0 answer c2) h.is (takes x.0 there)))

-- With the acknowledgement taken, the call is asked.
pub asks_ok : (c s : NodeParts) (time : Timeval) (body : List ℕ) (c1 s1 c2 : NodeParts) (number : ℕ)
    (r : ServerReceipt)
    → IsJoined c s → IsSentBy c s body c1 number → IsHeard c s time body r s1 → IsSender (sender_of s1)
    → ((a : Ack) → AckReaches s1 kinds.Server r.ack c1 a → TakesAwaited c1 a (Ok tt) c2)
    → IsAsked c s time body r c2 s1
asks_ok c s time body c1 s1 c2 number r joined h done is takes =
    let x = asks_answered c s time body c1 s1 c2 number r (Ok tt) joined h done is takes in
    record { heard = done; ack = x.0; made = x.1.0.ack; taken = x.1.1 }

-- Where the client was refused memory for the acknowledgement, or lacks a number, the call stops there.
pub asks_refused : (c s : NodeParts) (time : Timeval) (body : List ℕ) (c1 s1 c2 : NodeParts) (number : ℕ)
    (r : ServerReceipt)
    (fault : LinkFault) → IsJoined c s → IsSentBy c s body c1 number → IsHeard c s time body r s1
    → IsSender (sender_of s1)
    → ((a : Ack) → AckReaches s1 kinds.Server r.ack c1 a → TakesAwaited c1 a (Err fault) c2)
    → Asks c s time body (Err fault) c2 s1
asks_refused c s time body c1 s1 c2 number r fault joined h done is takes =
    let x = asks_answered c s time body c1 s1 c2 number r (Err fault) joined h done is takes in
    by fault x.0 x.1.1
  where
    by : (f : LinkFault) (a : Ack) → TakesAwaited (having_called c s body) a (Err f) c2
        → Asks c s time body (Err f) c2 s1
    by KeysUsedUp a t = absurd t
    by NoMemory a t = heard r done t
    by Failed a t = ack_lacks r done t.0 t.1
