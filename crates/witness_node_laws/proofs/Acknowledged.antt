-- The acknowledgement of a message whose RECV stands in a log.
-- Serves: acknowledgements_of_nodes_close.
use Rattle.std.proofs.Common.{◌≡◌, ℕ, true, List, [], ◌∷◌, Option, Some, None}
use Rattle.std.proofs.Common.{refl, sym, ap, subst, ◌∙◌}
use Rattle.std.specs.Prelude.{IsSomeAnd}
use Rattle.std.proofs.lemmas.Bool.{true≢false}
use Rattle.sha2.specs.Sha256.{sha256}
use Rattle.merkle_keys.specs.Signing.{SignatureParts}
use Rattle.secure_log.specs.declared.log_entries.entry.Entry.{Entry}
use Rattle.secure_log.specs.declared.log_entries.entry.Entry.TheVariants.{Send, Recv, Ack as Acked, Clock}
use Rattle.secure_log.specs.declared.log_entries.entry.Entry.TheVariants.{Check}
use Rattle.envelopes.specs.declared.message.Message.{Message}
use Rattle.envelopes.specs.declared.acknowledgement.Ack.{Ack}
use Rattle.envelopes.specs.Acknowledgement.{acked_message}
use Rattle.secure_log.specs.LogEntries.Messages.{message_hash}
use Rattle.commitment.specs.Signings.Signings.{Signing, is_signed_entry, logged_of, signed_word}
use Rattle.commitment.specs.Senders.Sender.{SenderParts, IsSender, signed_at}
use Rattle.commitment.specs.Senders.LookUps.{ack_at, ack_from, ack_of}
use Rattle.commitment.specs.Received.{IsReceiptAt, receipts_of}
use Rattle.commitment.proofs.OfSenders.Meanings.{signing_is, unsigned_is}
use Rattle.secure_log.specs.LogEntries.Chain.{Logged}
use Rattle.secure_log.proofs.Logs.{one_entry}

-- an acknowledgement of a node, of a message
pub record IsAckOf (node : ℕ) (message : Message) (a : Ack) : Type 0 where
  -- the node acknowledges
  pub by : a.by ≡ node
  -- it is this message
  pub of : acked_message a ≡ message

of_entry : (node entry_word : ℕ) (prev : List ℕ) (signature : SignatureParts) (e : Entry) (message : Message)
    (k : ℕ)
    → receipts_of node k e ≡ (message, k) ∷ []
    → IsSomeAnd (ack_from node entry_word prev signature e) (IsAckOf node message)
of_entry node entry_word prev signature (Send to body) message k h = absurd (cc)
of_entry node entry_word prev signature (Recv from seq sender_prev body sender_signature) message k h =
    let made : Message =
    record { from = from; seq = seq; hash = message_hash node seq sender_prev (sha256 body) } in
    let pair : ◌≡◌ {A = Message × ℕ} (made, k) (message, k) = cc in
    record { by = refl; of = ap (λ (p : Message × ℕ). p.0) pair }
of_entry node entry_word prev signature (Acked to seq mine theirs their_prev their_signature) message k h =
    absurd (cc)
of_entry node entry_word prev signature (Clock seconds microseconds) message k h = absurd (cc)
of_entry node entry_word prev signature (Check digest) message k h = absurd (cc)

-- an entry with a message is of a kind that is signed
is_signed : (node n : ℕ) (e : Entry) (message : Message) → receipts_of node n e ≡ (message, n) ∷ []
    → is_signed_entry e ≡ true
is_signed node n (Send to body) message h = absurd (cc)
is_signed node n (Recv from seq prev body signature) message h = refl
is_signed node n (Acked to seq mine theirs prev signature) message h = absurd (cc)
is_signed node n (Clock seconds microseconds) message h = absurd (cc)
is_signed node n (Check digest) message h = absurd (cc)

-- A sender has its acknowledgement of each message whose RECV stands in its log, by the RECV's number.
pub acknowledged : (s : SenderParts) (message : Message) (number : ℕ) → IsSender s
    → IsReceiptAt s.log message number → IsSomeAnd (ack_at s number) (IsAckOf s.log.node message)
acknowledged s message number is r = by (signed_at s number) refl
  where
    by : (o : Option Signing) → signed_at s number ≡ o
        → IsSomeAnd (ack_of s.log.node o) (IsAckOf s.log.node message)
    by None at =
        absurd (true≢false (sym (is_signed s.log.node number r.entry.entry message r.is)
        ∙ unsigned_is s number r.entry at r.there))
    by (Some g) at =
        let same = one_entry s.log.entries number r.entry (logged_of g) r.there (signing_is s number g is at).there in
        of_entry s.log.node (signed_word g) g.prev g.signature g.entry message number
        (subst (λ (x : Logged). receipts_of s.log.node number x.entry ≡ (message, number) ∷ []) same.1 r.is)
