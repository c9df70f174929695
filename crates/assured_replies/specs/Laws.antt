-- What holds of a server's replies once a witness has audited its log. Each is the contract of a function in src/laws.rt.
use Rattle.std.specs.Prelude.{◌≡◌, ◌≢◌, ℕ, ◌+◌, ◌<◌, ◌≤◌, List, [], ◌∷◌, ◌++◌, flat_map, Option, Some, None}
use Rattle.sha2.specs.Sha256.{sha256}
use Rattle.xdr.specs.Item.{Fits}
use Rattle.authenticator.specs.Numbers.{number_in}
use Rattle.authenticator.specs.declared.member.Kind.TheVariants as kinds
use Rattle.secure_log.specs.LogEntries.Chain.{Logged, NoCollision, chain_texts, entry_text, logged_links}
use Rattle.secure_log.specs.LogEntries.Entry.{recv_content, send_content}
use Rattle.secure_log.specs.declared.log_entries.entry.Entry.TheVariants.{Send}
use Rattle.envelopes.specs.Envelope.{envelope_item, envelope_shows, envelope_value}
use Rattle.envelopes.specs.Acknowledgement.{ack_item, ack_shows, ack_value}
use Rattle.envelopes.specs.declared.envelope.Envelope.{Envelope}
use Rattle.envelopes.specs.declared.acknowledgement.Ack.{Ack}
use Rattle.commitment.specs.Senders.LookUps.{FitsEnvelope}
use Rattle.replay_spec.specs.Steps.{OwesNothing}
use Rattle.evidence_spec.specs.Proving.{entry_texts}
use Rattle.witness_spec.specs.Replies.{Exposed}
use Rattle.witness_spec.specs.Starting.{Beginning, KnownBase, start_hash, start_number}
use Rattle.witness_spec.specs.Watched.{Watched, IsInRoster, IsWatchedFrom}
use Rattle.witness_spec.specs.Steps.{Past}
use Rattle.witness_spec.specs.Standing.{audited, end_of, indication}
use Rattle.witness_spec.specs.Histories.{History, IsHistory, own_of}
use Rattle.witness_laws.specs.Audits.{IsShown}
use Rattle.assured_replies.specs.Owed.{IsOwedIn, start_of}

-- ---- texts that are hashed

-- those of all that was audited of a node
abbrev pub audited_texts : Watched → Past → List (List ℕ)
audited_texts w past =
    chain_texts (start_hash w.base) (logged_links (start_number w.base) (audited w past))
    ++ flat_map (λ (l : Logged). entry_texts l.entry) (audited w past)

-- those of an envelope: that of its SEND in the chain, the content of that, and the body
abbrev pub message_texts : Envelope → List (List ℕ)
message_texts e =
    entry_text e.prev e.seq 1 (sha256 (send_content e.to (sha256 e.body))) ∷ entry_texts (Send e.to e.body)

-- those of an acknowledgement: that of its RECV in the chain, and the content of that
abbrev pub receipt_texts : Ack → List (List ℕ)
receipt_texts a =
    entry_text a.prev a.number 2
    (sha256 (recv_content a.from a.seq a.sender_prev a.body_hash a.signature_hash))
    ∷ recv_content a.from a.seq a.sender_prev a.body_hash a.signature_hash ∷ []

-- ---- what a witness answers for

-- The state where an audit begins owes nothing: that of a base doesn't, and of a log's beginning it never does.
abbrev pub BeginsIdle : Option KnownBase → Type 0
BeginsIdle None = Unit {0}
BeginsIdle (Some b) = OwesNothing b.state.machine

-- A witness answers for a server's log up to a number: it doesn't call the server exposed, and has filed the log
-- Sound up to there, from its first entry or from a base below that number.
pub record AnswersFor (g : Beginning) (w : Watched) (history : History) (number : ℕ) : Type 0 where
  pub roster : IsInRoster w
  pub watched : IsWatchedFrom g w
  pub happened : IsHistory g history
  pub server : w.member.kind ≡ kinds.Server
  pub idle : BeginsIdle w.base
  pub not_exposed : indication w (own_of w history) ≢ Exposed
  pub above : start_number w.base < number
  pub filed : number ≤ (end_of w (own_of w history)).number

-- the number of an envelope's SEND in the log of a watched node
abbrev pub sent_number : Watched → Envelope → ℕ
sent_number w e = number_in w.member.log_version e.seq

-- A reply that a witness answers for, and whose signature it was shown, is the one that the server owed to a call of
-- the node that it goes to, where no two texts have one digest.
abbrev pub AuditedRepliesAreOwed : Type 0
AuditedRepliesAreOwed =
    (g : Beginning) (w : Watched) (history : History) (e : Envelope)
    → AnswersFor g w history (sent_number w e)
    → Fits envelope_item (envelope_value e) → IsShown w (own_of w history) (envelope_shows e)
    → NoCollision (audited_texts w (own_of w history) ++ message_texts e)
    → (call : List ℕ)
    × IsOwedIn (start_of w) (audited w (own_of w history)) (sent_number w e) e.to call e.body

-- Where it has the number two after that of an acknowledgement of a call, whose signature was shown too, it is the
-- one that was owed to this very call.
abbrev pub AuditedRepliesAnswerTheirCalls : Type 0
AuditedRepliesAnswerTheirCalls =
    (g : Beginning) (w : Watched) (history : History) (c e : Envelope) (a : Ack)
    → AnswersFor g w history (sent_number w e)
    → Fits envelope_item (envelope_value e) → IsShown w (own_of w history) (envelope_shows e)
    → Fits ack_item (ack_value a) → FitsEnvelope a c → IsShown w (own_of w history) (ack_shows a)
    → sent_number w e ≡ number_in w.member.log_version a.number + 2
    → NoCollision (audited_texts w (own_of w history) ++ (message_texts e ++ (receipt_texts a ++ c.body ∷ [])))
    → (e.to ≡ c.from)
    × IsOwedIn (start_of w) (audited w (own_of w history)) (sent_number w e) e.to c.body e.body
