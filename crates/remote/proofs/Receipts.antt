-- What receiving an envelope for which no call waits gives and leaves.
-- Serves: receive.
use Rattle.std.proofs.Common.{◌≡◌, ◌⊎◌, inl, inr, ℕ, List, Ok, Err, Some, None, ap, refl, subst, sym, ◌∙◌}
use Rattle.authenticator.specs.declared.member.Member.{Member}
use Rattle.authenticator.specs.Signed.{IsSignedIn}
use Rattle.xdr.specs.Texts.Text.{text_at}
use Rattle.envelopes.specs.Envelope.{envelope_shows, envelope_text, envelope_value}
use Rattle.envelopes.specs.declared.envelope.Envelope.{Envelope}
use Rattle.commitment.specs.Receiver.{Opens}
use Rattle.commitment.specs.declared.outcome.Received.{Received}
use Rattle.commitment.specs.declared.outcome.Received.TheVariants.{New, Repeat}
use Rattle.commitment.specs.declared.refusal.Refusal.{Refusal}
use Rattle.commitment.specs.declared.refusal.Refusal.TheVariants as refusals
use Rattle.node_logs.specs.Nodes.{NodeParts}
use Rattle.node_logs.specs.Sending.{TakesReply}
use Rattle.nodes.proofs.OfExchanges.Texts.{one_envelope}
use Rattle.remote.specs.Remotes.{RemoteParts, remote_of}
use Rattle.remote.specs.Receipts.{Receives, RefusesReceiving}
use Rattle.remote.specs.Refusals.{reply_fault}
use Rattle.remote.specs.Sent.{IsTextFrom, NotTextFrom}
use Rattle.remote.specs.declared.fault.AcceptFault.{AcceptFault}
use Rattle.remote.specs.declared.fault.AcceptFault.TheVariants as faults
use Rattle.remote.proofs.Receiving.{from_server, is_received, stays}

-- It was received.
pub receives : (n n' : NodeParts) (server : ℕ) (bytes : List ℕ) (e : Envelope) (h : Received ℕ)
    → IsTextFrom server bytes e
    → TakesReply n bytes (Ok h) n'
    → Receives (remote_of n server) bytes h (remote_of n' server)
receives n n' server bytes e (New place) read x = (e, is_received n n' server place bytes e read x)
receives n n' server bytes e (Repeat place) read x = (
  x.0,
  (from_server n server bytes e x.0 read x.1.0.opened, x.1.0.found, stays n n' server x.1.1),
)

-- Bytes that open as an envelope aren't refused.
opens_no_garbage : (node : ℕ) (ms : List Member) (bytes : List ℕ) (e : Envelope)
    → Opens node ms bytes (Err refusals.Garbage)
    → Opens node ms bytes (Ok e)
    → ⊥
opens_no_garbage node ms bytes e none opens =
    let is : text_at envelope_text bytes ≡ Some (envelope_value e) = opens.0.text in
    let clash : None ≡ Some (envelope_value e) = sym none ∙ is in
    absurd cc

opens_for_me : (node : ℕ) (ms : List Member) (bytes : List ℕ) (e : Envelope)
    → Opens node ms bytes (Err refusals.NotForMe)
    → Opens node ms bytes (Ok e)
    → ⊥
opens_for_me node ms bytes e other opens = by other.1.1
  where
    same : other.0 ≡ e
    same = one_envelope bytes other.0 e other.1.0 opens.0.text

    by : (¬ (other.0.to ≡ node)) ⊎ (other.0.from ≡ node) → ⊥
    by (inl not) = not (ap (λ (x : Envelope). x.to) same ∙ opens.0.receiver)
    by (inr own) = opens.0.sender (sym (ap (λ (x : Envelope). x.from) same) ∙ own)

opens_signed : (node : ℕ) (ms : List Member) (bytes : List ℕ) (e : Envelope)
    → Opens node ms bytes (Err refusals.BadSignature)
    → Opens node ms bytes (Ok e)
    → ⊥
opens_signed node ms bytes e bad opens =
    let same : bad.0 ≡ e = one_envelope bytes bad.0 e bad.1.0.text opens.0.text in
    bad.1.1 (subst (λ (x : Envelope). IsSignedIn ms (envelope_shows x)) (sym same) opens.1)

-- It was refused.
pub refuses_receiving : (n n' : NodeParts) (server : ℕ) (bytes : List ℕ) (e : Envelope) (refusal : Refusal)
    → IsTextFrom server bytes e
    → TakesReply n bytes (Err refusal) n'
    → RefusesReceiving (remote_of n server) bytes (reply_fault refusal) (remote_of n' server)
refuses_receiving n n' server bytes e refusals.Garbage read x =
    (λ f from. opens_no_garbage n.node n.roster bytes f x.0 from.opens, stays n n' server x.1)
refuses_receiving n n' server bytes e refusals.NotForMe read x =
    (λ f from. opens_for_me n.node n.roster bytes f x.0 from.opens, stays n n' server x.1)
refuses_receiving n n' server bytes e refusals.BadSignature read x =
    (λ f from. opens_signed n.node n.roster bytes f x.0 from.opens, stays n n' server x.1)
refuses_receiving n n' server bytes e refusals.KeysUsedUp read x = (
  x.0,
  (from_server n server bytes e x.0 read x.1.0.opened, x.1.0.found, x.1.1, stays n n' server x.1.2),
)
refuses_receiving n n' server bytes e refusals.GapTooWide read x = (
  x.0,
  (from_server n server bytes e x.0 read x.1.0.opened, x.1.0.found, x.1.1, x.1.2, stays n n' server x.1.3),
)
refuses_receiving n n' server bytes e refusals.NoGaps read x = absurd x
refuses_receiving n n' server bytes e refusals.NoMemory read x = stays n n' server x

-- What was read as no envelope from the server is none that it signed.
pub refuses_unread : (r : RemoteParts) (bytes : List ℕ) (fault : AcceptFault)
    → NotTextFrom r.server bytes fault
    → RefusesReceiving r bytes fault r
refuses_unread r bytes faults.Unanswered none =
    (λ e from. none e (record { text = from.opens.0.text; sender = from.sender }), refl)
refuses_unread r bytes faults.NoMemory none = refl
refuses_unread r bytes faults.NotAcknowledged none = absurd none
refuses_unread r bytes faults.AcknowledgedTwice none = absurd none
refuses_unread r bytes faults.NotOwed none = absurd none
refuses_unread r bytes (faults.AnotherCall place) none = absurd none
refuses_unread r bytes (faults.Repeated place) none = absurd none
refuses_unread r bytes faults.KeysUsedUp none = absurd none
refuses_unread r bytes faults.NoNumbers none = absurd none
