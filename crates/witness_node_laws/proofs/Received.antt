-- The RECV of a message that a node received stands in its log.
-- Serves: what_is_received_is_logged.
use Rattle.std.proofs.Common.{◌≡◌, ℕ, ◌+◌, List, [], ◌∷◌, ◌++◌, Option, Some, None, Ok, refl, sym, ap}
use Rattle.std.proofs.Common.{subst, ◌∙◌}
use Rattle.std.proofs.lemmas.Option.{same_Some}
use Rattle.sha2.specs.Sha256.{sha256}
use Rattle.secure_log.specs.LogEntries.Messages.{message_hash}
use Rattle.secure_log.specs.LogEntries.Chain.{Logged, span}
use Rattle.secure_log.specs.declared.log_entries.entry.Entry.TheVariants.{Send, Clock}
use Rattle.secure_log.specs.Log.{LogParts}
use Rattle.envelopes.specs.Envelope.{envelope_message}
use Rattle.envelopes.specs.Checking.{IsTextOf}
use Rattle.envelopes.specs.declared.envelope.Envelope.{Envelope}
use Rattle.envelopes.specs.declared.message.Message.{Message}
use Rattle.packets.specs.Values.{envelope_said}
use Rattle.commitment.specs.Received.{IsReceiptAt, receipt_of}
use Rattle.commitment.specs.Receiver.{receipt_entry}
use Rattle.commitment.specs.Outcomes.{receipt_number}
use Rattle.commitment.specs.declared.outcome.Received.{Received}
use Rattle.commitment.specs.declared.outcome.Received.TheVariants as received
use Rattle.nfs_items.specs.Timeval.{Timeval}
use Rattle.server_spec.specs.Replies.{reply_owed}
use Rattle.node_logs.specs.replay_spec.LogLaws.HonestServers.{heard_entries, next_logged}
use Rattle.node_logs.specs.Steps.Nodes.{NodeParts, log_of, next_number}
use Rattle.node_logs.specs.Receiving.{Receives, ReceivesEnvelope, with_received}
use Rattle.node_logs.specs.Steps.Serving.{reading_at, reply_told}
use Rattle.node_logs.specs.Sending.{TakesReply}
use Rattle.node_logs.specs.Steps.Logging.{with_receipt}
use Rattle.node_logs.specs.declared.outcome.Receipt.{Receipt}
use Rattle.witness_node_laws.specs.Laws.{call_number}

-- what tells that a message that is found stands there
abbrev pub Stands : Type 0
Stands =
    (log : LogParts) (m : Message) (number : ℕ) → receipt_of log m ≡ Some number → IsReceiptAt log m number

-- bytes are the text of one envelope
one_envelope : (bytes : List ℕ) (e f : Envelope) → IsTextOf bytes e → IsTextOf bytes f → e ≡ f
one_envelope bytes e f a b = ap envelope_said (same_Some _ _ (sym a ∙ b))

-- a RECV of an envelope to this node
recv_at : (log : LogParts) (before rest : List Logged) (skipped : ℕ) (e : Envelope) → e.to ≡ log.node
    → log.entries ≡ before ++ record { skipped = skipped; entry = receipt_entry e } ∷ rest
    → IsReceiptAt log (envelope_message e) (span before + 1 + skipped)
recv_at log before rest skipped e to whole = record {
  entry = record { skipped = skipped; entry = receipt_entry e };
  there = record { before = before; rest = rest; whole = whole; place = refl };
  is = ap (λ k. (
    record { from = e.from; seq = e.seq; hash = message_hash k e.seq e.prev (sha256 e.body) },
    span before + 1 + skipped,
  ) ∷ []) (sym to);
}

-- what a server logs after the RECV
abbrev behind : Envelope → Timeval → Option (List ℕ) → List Logged
behind e time None = next_logged (Clock time.seconds time.microseconds) ∷ []
behind e time (Some reply) =
    next_logged (Clock time.seconds time.microseconds) ∷ next_logged (Send e.from reply) ∷ []

heard_is : (skipped : ℕ) (e : Envelope) (time : Timeval) (o : Option (List ℕ))
    → heard_entries skipped e.from e.seq e.prev e.body e.signature time o
    ≡ record { skipped = skipped; entry = receipt_entry e } ∷ behind e time o
heard_is skipped e time None = refl
heard_is skipped e time (Some reply) = refl

new_call : (n n' : NodeParts) (time : Timeval) (e : Envelope) (r : Receipt) → e.to ≡ n.node
    → ReceivesEnvelope n time e r n' → IsReceiptAt (log_of n') (envelope_message e) r.ack
new_call n n' time e r to h =
    let reading : Timeval = reading_at n time in
    let o : Option (List ℕ) = reply_told n.lies (reply_owed h.world reading e.body) in
    let after : NodeParts = with_received n h.world e reading in
    let there = recv_at (log_of after) n.entries (behind e reading o) n.pending e to
    (ap (λ (es : List Logged). n.entries ++ es) (heard_is n.pending e reading o)) in
    subst (IsReceiptAt (log_of n') (envelope_message e)) (sym (ap (λ (x : Receipt). x.ack) h.receipt))
    (subst (λ (x : NodeParts). IsReceiptAt (log_of x) (envelope_message e) (next_number n))
    (sym h.served) there)

-- What a server received, now or before, stands in its log at the number that it gives.
pub call_logged : Stands → (n n' : NodeParts) (time : Timeval) (bytes : List ℕ) (e : Envelope)
    (h : Received Receipt)
    → Receives n time bytes (Ok h) n' → IsTextOf bytes e
    → IsReceiptAt (log_of n') (envelope_message e) (call_number h)
call_logged stands n n' time bytes e (received.New r) h text =
    let same : h.0 ≡ e = one_envelope bytes h.0 e h.1.0.opened.0.text text in
    subst (λ x. IsReceiptAt (log_of n') (envelope_message x) r.ack) same
    (new_call n n' time h.0 r h.1.0.opened.0.receiver h.1.3)
call_logged stands n n' time bytes e (received.Repeat r) h text =
    let same : h.0 ≡ e = one_envelope bytes h.0 e h.1.0.opened.0.text text in
    subst (λ x. IsReceiptAt (log_of n') (envelope_message x) r.ack) same
    (subst (λ (x : NodeParts). IsReceiptAt (log_of x) (envelope_message h.0) r.ack) (sym h.1.2)
    (stands (log_of n) (envelope_message h.0) r.ack h.1.0.found))

-- The same of a client.
pub reply_logged : Stands → (n n' : NodeParts) (bytes : List ℕ) (e : Envelope) (r : Received ℕ)
    → TakesReply n bytes (Ok r) n' → IsTextOf bytes e
    → IsReceiptAt (log_of n') (envelope_message e) (receipt_number r)
reply_logged stands n n' bytes e (received.New number) h text =
    let same : h.0 ≡ e = one_envelope bytes h.0 e h.1.0.opened.0.text text in
    let there = recv_at (log_of (with_receipt n h.0)) n.entries [] n.pending h.0 h.1.0.opened.0.receiver refl in
    subst (λ x. IsReceiptAt (log_of n') (envelope_message x) number) same
    (subst (IsReceiptAt (log_of n') (envelope_message h.0)) (sym h.1.4)
    (subst (λ (x : NodeParts). IsReceiptAt (log_of x) (envelope_message h.0) (next_number n))
    (sym h.1.3) there))
reply_logged stands n n' bytes e (received.Repeat number) h text =
    let same : h.0 ≡ e = one_envelope bytes h.0 e h.1.0.opened.0.text text in
    subst (λ x. IsReceiptAt (log_of n') (envelope_message x) number) same
    (subst (λ (x : NodeParts). IsReceiptAt (log_of x) (envelope_message h.0) number) (sym h.1.1)
    (stands (log_of n) (envelope_message h.0) number h.1.0.found))
