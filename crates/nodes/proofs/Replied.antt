-- What bringing a reply back gives, and where it stops.
-- Serves: bring_back.
use Rattle.std.proofs.Common.{◌≡◌, ℕ, Ok, Err}
use Rattle.secure_log.specs.LogEntries.Chain.{span}
use Rattle.authenticator.specs.declared.member.Kind.TheVariants as kinds
use Rattle.envelopes.specs.declared.envelope.Envelope.{Envelope}
use Rattle.envelopes.specs.declared.acknowledgement.Ack.{Ack}
use Rattle.commitment.specs.Senders.Sender.{IsSender}
use Rattle.node_logs.specs.Steps.Nodes.{NodeParts, sender_of}
use Rattle.gateway.specs.declared.links.fault.LinkFault.{LinkFault}
use Rattle.gateway.specs.declared.links.fault.LinkFault.TheVariants.{KeysUsedUp, NoMemory, Failed}
use Rattle.nodes.specs.Exchanges.Reaching.{AckReaches, IsReplyReady, Reaches}
use Rattle.nodes.specs.Exchanges.Exchanges.{IsReceived}
use Rattle.nodes.proofs.OfExchanges.Answered.{reply_acknowledged}
use Rattle.nodes.specs.Delivery.{TakesAwaited, TakesNew}
use Rattle.nodes.specs.Faults.{StopsAtReply, receipt_lacks, received}

-- the client that has received the reply
pub is_received : (c s c1 : NodeParts) (number : ℕ) (h : IsReplyReady c s number)
    → ((e : Envelope) → Reaches s kinds.Server number c e → TakesNew c e (Ok tt) c1)
    → IsReceived c s number h.envelope c1
is_received c s c1 number h takes =
    let x = takes h.envelope h.reaches in
    record { envelope = h.reaches.envelope; left = x.0; numbers = x.1; received = x.2 }

-- Where the server was refused memory for the acknowledgement, or lacks a number, the reply stops there.
pub stops_replying : (c s c1 t : NodeParts) (number receipt : ℕ) (fault : LinkFault)
    (h : IsReplyReady c s number)
    → ((e : Envelope) → Reaches s kinds.Server number c e → TakesNew c e (Ok tt) c1) → IsSender (sender_of c1)
    → receipt ≡ span c1.entries
    → ((a : Ack) → AckReaches c1 kinds.Client receipt s a → TakesAwaited s a (Err fault) t)
    → StopsAtReply c s number fault c1 t
stops_replying c s c1 t number receipt fault h takes is last acknowledged =
    let got = is_received c s c1 number h takes in
    let x = reply_acknowledged c s c1 number receipt h got.received is last in
    by fault x.0 got (acknowledged x.0 x.1)
  where
    by : (f : LinkFault) (a : Ack) → IsReceived c s number h.envelope c1 → TakesAwaited s a (Err f) t
        → StopsAtReply c s number f c1 t
    by KeysUsedUp a got k = absurd k
    by NoMemory a got k = received h.envelope got k
    by Failed a got k = receipt_lacks h.envelope got k.0 k.1
