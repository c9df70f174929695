-- What taking the reply to a call gives and leaves.
-- Serves: take_reply.
use Rattle.std.proofs.Common.{◌≡◌, inr, ℕ, List, [], Result, Ok, Err, Some, refl, sym}
use Rattle.std.proofs.Common.{ap, subst, ◌∙◌}
use Rattle.std.specs.Prelude.{IfErr, IfOk}
use Rattle.envelopes.specs.declared.acknowledgement.Ack.{Ack}
use Rattle.envelopes.specs.declared.envelope.Envelope.{Envelope}
use Rattle.commitment.specs.Receiver.{Opens}
use Rattle.commitment.specs.Senders.LookUps.{ack_at}
use Rattle.commitment.specs.Senders.Sender.{IsSender}
use Rattle.commitment.specs.declared.outcome.Received.{Received}
use Rattle.commitment.specs.declared.outcome.Received.TheVariants.{New}
use Rattle.node_logs.specs.Nodes.{NodeParts, next_number, sender_of}
use Rattle.node_logs.specs.Sending.{TakesReply, with_receipt}
use Rattle.nodes.proofs.OfExchanges.Shown.{ack_shown}
use Rattle.nodes.proofs.OfExchanges.Texts.{one_envelope}
use Rattle.remote.specs.Remotes.{RemoteParts, remote_of}
use Rattle.remote.specs.Replies.{IsFromServer, IsNew, IsReceived, IsReplied, IsReplyTo, RefusesReply}
use Rattle.remote.specs.Replies.{WritesReceipt}
use Rattle.remote.specs.Sent.{IsTextFrom}
use Rattle.remote.specs.declared.fault.AcceptFault.{AcceptFault}
use Rattle.remote.specs.declared.fault.AcceptFault.TheVariants as faults

-- a client that is as it was
pub stays : (n n' : NodeParts) (server : ℕ) → n' ≡ n → remote_of n' server ≡ remote_of n server
stays n n' server h = ap (λ (m : NodeParts). remote_of m server) h

-- what was read is from the server, once it opens
pub from_server : (n : NodeParts) (server : ℕ) (bytes : List ℕ) (e f : Envelope) → IsTextFrom server bytes e
    → Opens n.node n.roster bytes (Ok f)
    → IsFromServer (remote_of n server) bytes f
from_server n server bytes e f read opens = record {
  opens = opens;
  sender = ap (λ (x : Envelope). x.from) (one_envelope bytes f e opens.0.text read.text) ∙ read.sender;
}

-- what was taken is new
pub took_new : (n n' : NodeParts) (bytes : List ℕ) (place : ℕ) (h : Received ℕ) → h ≡ New place
    → TakesReply n bytes (Ok h) n'
    → TakesReply n bytes (Ok (New place)) n'
took_new n n' bytes place h new takes =
    subst (λ (x : Received ℕ). TakesReply n bytes (Ok x) n') new takes

-- It is received.
pub is_received : (n n' : NodeParts) (server place : ℕ) (bytes : List ℕ) (e : Envelope)
    → IsTextFrom server bytes e
    → TakesReply n bytes (Ok (New place)) n'
    → IsReceived (remote_of n server) bytes e place (remote_of n' server)
is_received n n' server place bytes e read x =
    let same : x.0 ≡ e = one_envelope bytes x.0 e x.1.0.opened.0.text read.text in
    record {
      from =
          subst (λ (f : Envelope). IsFromServer (remote_of n server) bytes f) same
          (from_server n server bytes e x.0 read x.1.0.opened);
      new = subst (λ (f : Envelope). IsNew (remote_of n server) f) same x.1.0.found;
      left = x.1.1;
      numbers = x.1.2;
      received = ap (λ (m : NodeParts). remote_of m server) (x.1.3 ∙ ap (with_receipt n) same);
      numbered = x.1.4;
    }

-- The client shows its acknowledgement.
receipt_shown : (n n' : NodeParts) (place : ℕ) (e : Envelope) → n' ≡ with_receipt n e → IsSender
    (sender_of n')
    → place ≡ next_number n
    → (a : Ack) × (ack_at (sender_of n') place ≡ Some a)
receipt_shown n n' place e got is at =
    let x = ack_shown (sender_of (with_receipt n e)) n.entries [] n.pending e.from e.seq e.prev e.body
    e.signature
    (subst (λ (m : NodeParts). IsSender (sender_of m)) got is) refl in (
      x.0,
      ap (λ (m : NodeParts). ack_at (sender_of m) place) got
          ∙ ap (ack_at (sender_of (with_receipt n e))) at ∙ x.1.there,
    )

-- It is the reply, and the text of its acknowledgement was written, or memory was refused.
pub is_replied : (n n' : NodeParts) (server place : ℕ) (call : Envelope) (a : Ack)
    (bytes body receipt : List ℕ)
    (e : Envelope) (result : Result (Unit {0}) AcceptFault)
    → IsTextFrom server bytes e
    → TakesReply n bytes (Ok (New place)) n'
    → IsReplyTo (remote_of n server) call a e
    → body ≡ e.body
    → IsSender (sender_of n')
    → ((k : Ack) → ack_at (sender_of n') place ≡ Some k → WritesReceipt k result receipt)
    → IfOk result (λ x. IsReplied (remote_of n server) call a bytes body receipt (remote_of n' server))
    × IfErr result (λ f. RefusesReply (remote_of n server) call a bytes f (remote_of n' server))
is_replied n n' server place call a bytes body receipt e result read takes is_reply says is written =
    by result (written k.0 k.1)
  where
    got : IsReceived (remote_of n server) bytes e place (remote_of n' server)
    got = is_received n n' server place bytes e read takes

    k : (k : Ack) × (ack_at (sender_of n') place ≡ Some k)
    k = receipt_shown n n' place e (ap (λ (r : RemoteParts). r.client) got.received) is got.numbered

    by : (r : Result (Unit {0}) AcceptFault) → WritesReceipt k.0 r receipt
        → IfOk r (λ x. IsReplied (remote_of n server) call a bytes body receipt (remote_of n' server))
        × IfErr r (λ f. RefusesReply (remote_of n server) call a bytes f (remote_of n' server))
    by (Ok x) w = (
      record {
        envelope = e;
        place = place;
        received = got;
        is_reply = is_reply;
        says = says;
        ack = k.0;
        made = k.1;
        written = w;
      },
      tt,
    )
    by (Err f) w = (
      tt,
      subst (λ (g : AcceptFault). RefusesReply (remote_of n server) call a bytes g (remote_of n' server))
          (sym w)
          (inr (e, (place, (got, is_reply)))),
    )

-- It is that of another call.
pub is_anothers : (n n' : NodeParts) (server place : ℕ) (call : Envelope) (a : Ack) (bytes : List ℕ)
    (e : Envelope)
    → IsTextFrom server bytes e
    → TakesReply n bytes (Ok (New place)) n'
    → (IsReplyTo (remote_of n server) call a e → ⊥)
    → RefusesReply (remote_of n server) call a bytes (faults.AnotherCall place) (remote_of n' server)
is_anothers n n' server place call a bytes e read takes other =
    (e, (is_received n n' server place bytes e read takes, other))
