-- What a node does with a text that another wrote, whatever either received before.
-- Serves: receive, take_reply, take_ack, deliver_call, deliver_reply, acknowledge_call, acknowledge_reply.
use Rattle.std.proofs.Common.{◌≡◌, ◌⊎◌, inl, inr, ℕ, ◌+◌, ◌<◌, Bool, true, false, List, Result, Ok, Err, Some}
use Rattle.std.proofs.Common.{None, refl, sym, ap, subst, ◌∙◌, arith, nat_lt}
use Rattle.std.proofs.lemmas.Bool.Decides.{nat_tests}
use Rattle.authenticator.specs.declared.member.LogVersion.{LogVersion}
use Rattle.authenticator.specs.declared.member.LogVersion.TheVariants.{One, Two}
use Rattle.xdr.specs.Texts.Text.{IsText}
use Rattle.envelopes.specs.Envelope.{envelope_shows, envelope_text, envelope_value}
use Rattle.authenticator.specs.Signed.{IsSignedIn}
use Rattle.commitment.specs.Receiver.{Finds}
use Rattle.envelopes.specs.Acknowledgement.{ack_text, ack_value}
use Rattle.envelopes.specs.Checking.{IsAckText, IsTextOf}
use Rattle.envelopes.specs.declared.envelope.Envelope.{Envelope}
use Rattle.envelopes.specs.declared.acknowledgement.Ack.{Ack}
use Rattle.commitment.specs.Senders.LookUps.{ack_at, envelope_at}
use Rattle.commitment.specs.declared.outcome.Received.{Received}
use Rattle.commitment.specs.declared.outcome.Received.TheVariants.{New, Repeat}
use Rattle.commitment.specs.declared.refusal.Refusal.{Refusal}
use Rattle.commitment.specs.declared.refusal.Refusal.TheVariants.{Garbage, NotForMe, BadSignature, KeysUsedUp}
use Rattle.commitment.specs.declared.refusal.Refusal.TheVariants.{NoMemory, NoGaps, GapTooWide}
use Rattle.commitment.specs.Senders.Sender.{PassesNumbers}
use Rattle.secure_log.specs.LogEntries.Chain.{span}
use Rattle.nfs_items.specs.Timeval.{Timeval}
use Rattle.gateway.specs.declared.links.fault.LinkFault.{LinkFault}
use Rattle.gateway.specs.declared.links.fault.LinkFault.TheVariants as faults
use Rattle.gateway.specs.declared.links.fault.LinkFault.TheVariants.{Failed}
use Rattle.node_logs.specs.Steps.Nodes.{NodeParts, receiver_of, sender_of}
use Rattle.node_logs.specs.Nodes.{LacksKeys, LacksNumbers}
use Rattle.node_logs.specs.Receiving.{Receives, ReceivesEnvelope}
use Rattle.node_logs.specs.Sending.{TakesReply, with_receipt}
use Rattle.node_logs.specs.Steps.Serving.{entries_for}
use Rattle.node_logs.specs.AckTaking.{TakesAck, with_ack}
use Rattle.node_logs.specs.declared.outcome.AckTaken.{AckTaken}
use Rattle.node_logs.specs.declared.outcome.AckTaken.TheVariants.{Logged, Already}
use Rattle.node_logs.specs.declared.outcome.Receipt.{Receipt}
use Rattle.nodes.specs.Exchanges.Reaching.{ack_told}
use Rattle.nodes.specs.Exchanges.Laws.{IsAccepted}
use Rattle.nodes.specs.Delivery.{MayReceive, MayTakeAck, TakesAwaited, fault_of}
use Rattle.nodes.proofs.OfExchanges.Texts.{one_ack, one_envelope, reads_back}
use Rattle.nodes.proofs.OfExchanges.Reached.{accepted_by}
use Rattle.nodes.proofs.Delivered.{awaited}

-- the text that a call wrote of an envelope
pub envelope_written : (a n : NodeParts) (number : ℕ) (e : Envelope) (bytes text : List ℕ) → n ≡ a
    → ((x : Envelope) → envelope_at (sender_of n) number ≡ Some x
    → IsText envelope_text (envelope_value x) text)
    → bytes ≡ text → envelope_at (sender_of a) number ≡ Some e → IsText envelope_text (envelope_value e) bytes
envelope_written a n number e bytes text node written same h =
    subst (IsText envelope_text (envelope_value e)) (sym same)
    (written e (ap (λ (x : NodeParts). envelope_at (sender_of x) number) node ∙ h))

-- What a server receives by it is that envelope.
pub received_new : (n n' : NodeParts) (time : Timeval) (bytes : List ℕ) (e : Envelope) (r : Receipt)
    (h : Received Receipt)
    → IsText envelope_text (envelope_value e) bytes → h ≡ New r → Receives n time bytes (Ok h) n'
    → (LacksKeys 2 n → ⊥) × (LacksNumbers (entries_for e.body) n → ⊥) × ReceivesEnvelope n time e r n'
received_new n n' time bytes e r h text is receives =
    by (subst (λ (x : Received Receipt). Receives n time bytes (Ok x) n') is receives)
  where
    by : Receives n time bytes (Ok (New r)) n'
        → (LacksKeys 2 n → ⊥) × (LacksNumbers (entries_for e.body) n → ⊥) × ReceivesEnvelope n time e r n'
    by x =
        let same : x.0 ≡ e =
        one_envelope bytes x.0 e x.1.0.opened.0.text
        (reads_back envelope_text (envelope_value e) bytes text) in (
          x.1.1,
          subst (λ (y : Envelope). LacksNumbers (entries_for y.body) n → ⊥) same x.1.2,
          subst (λ (y : Envelope). ReceivesEnvelope n time y r n') same x.1.3,
        )

-- It is to that server.
pub received_to : (n n' : NodeParts) (time : Timeval) (bytes : List ℕ) (e : Envelope) (r : Receipt)
    (h : Received Receipt)
    → IsText envelope_text (envelope_value e) bytes → h ≡ New r → Receives n time bytes (Ok h) n'
    → e.to ≡ n.node
received_to n n' time bytes e r h text is receives =
    by (subst (λ (x : Received Receipt). Receives n time bytes (Ok x) n') is receives)
  where
    by : Receives n time bytes (Ok (New r)) n' → e.to ≡ n.node
    by x =
        let same : x.0 ≡ e =
        one_envelope bytes x.0 e x.1.0.opened.0.text
        (reads_back envelope_text (envelope_value e) bytes text) in
        ap (λ (y : Envelope). y.to) (sym same) ∙ x.1.0.opened.0.receiver

-- What a server that refuses it leaves.
pub not_received : (n n' : NodeParts) (time : Timeval) (bytes : List ℕ) (e : Envelope) (refusal : Refusal)
    → IsText envelope_text (envelope_value e) bytes → Receives n time bytes (Err refusal) n'
    → MayReceive n time bytes e (Err (fault_of refusal)) n'
not_received n n' time bytes e refusal text receives = by refusal receives
  where
    read : IsTextOf bytes e
    read = reads_back envelope_text (envelope_value e) bytes text

    other : {f : Envelope} → (¬ (f.to ≡ n.node)) ⊎ (f.from ≡ n.node) → f ≡ e
        → Finds (receiver_of n) bytes e None → ⊥
    other (inl to) same found = to (ap (λ (y : Envelope). y.to) same ∙ found.opened.0.receiver)
    other (inr from) same found =
        found.opened.0.sender (sym (ap (λ (y : Envelope). y.from) same) ∙ from)

    by : (r : Refusal) → Receives n time bytes (Err r) n' → MayReceive n time bytes e (Err (fault_of r)) n'
    by Garbage x = (x.1, inl (text, λ found. absurd (let none = x.0 in let some = read in cc)))
    by NotForMe x =
        let same : x.0.0 ≡ e = one_envelope bytes x.0.0 e x.0.1.0 read in
        (x.1, inl (text, λ found. other x.0.1.1 same found))
    by BadSignature x =
        let same : x.0.0 ≡ e = one_envelope bytes x.0.0 e x.0.1.0.text read in (
          x.1,
          inl (
            text,
            λ found. x.0.1.1
                (subst (λ (y : Envelope). IsSignedIn n.roster (envelope_shows y)) (sym same) found.opened.1),
          ),
        )
    by KeysUsedUp x = (x.1.1, x.1.2)
    by GapTooWide x =
        let same : x.0 ≡ e = one_envelope bytes x.0 e x.1.0.opened.0.text read in
        (x.1.3, inr (x.1.1, subst (λ (y : Envelope). LacksNumbers (entries_for y.body) n) same x.1.2))
    by NoGaps x = absurd x
    by NoMemory x = x

-- A server doesn't stray by what it receives.
pub receives_straight : (n n' : NodeParts) (time : Timeval) (bytes : List ℕ)
    (result : Result (Received Receipt) Refusal)
    → Receives n time bytes result n' → n'.strayed ≡ n.strayed
receives_straight n n' time bytes (Ok (New r)) x = ap (λ (m : NodeParts). m.strayed) x.1.3.served
receives_straight n n' time bytes (Ok (Repeat r)) x = ap (λ (m : NodeParts). m.strayed) x.1.2
receives_straight n n' time bytes (Err KeysUsedUp) x = ap (λ (m : NodeParts). m.strayed) x.1.2
receives_straight n n' time bytes (Err GapTooWide) x = ap (λ (m : NodeParts). m.strayed) x.1.3
receives_straight n n' time bytes (Err NoGaps) x = absurd x
receives_straight n n' time bytes (Err Garbage) x = ap (λ (m : NodeParts). m.strayed) x.1
receives_straight n n' time bytes (Err NotForMe) x = ap (λ (m : NodeParts). m.strayed) x.1
receives_straight n n' time bytes (Err BadSignature) x = ap (λ (m : NodeParts). m.strayed) x.1
receives_straight n n' time bytes (Err NoMemory) x = ap (λ (m : NodeParts). m.strayed) x

-- A node doesn't stray by an acknowledgement.
pub acknowledged_straight : (n n' : NodeParts) (bytes : List ℕ) (result : Result AckTaken Refusal)
    → TakesAck n bytes result n' → n'.strayed ≡ n.strayed
acknowledged_straight n n' bytes (Ok (Logged number)) x = ap (λ (m : NodeParts). m.strayed) x.1.4
acknowledged_straight n n' bytes (Ok Already) x = ap (λ (m : NodeParts). m.strayed) x.1.3
acknowledged_straight n n' bytes (Err Garbage) x = ap (λ (m : NodeParts). m.strayed) x.1
acknowledged_straight n n' bytes (Err NotForMe) x = ap (λ (m : NodeParts). m.strayed) x.1.2
acknowledged_straight n n' bytes (Err BadSignature) x = ap (λ (m : NodeParts). m.strayed) x.1.2
acknowledged_straight n n' bytes (Err NoMemory) x = ap (λ (m : NodeParts). m.strayed) x
acknowledged_straight n n' bytes (Err GapTooWide) x = ap (λ (m : NodeParts). m.strayed) x.1.4
acknowledged_straight n n' bytes (Err NoGaps) x = absurd x
acknowledged_straight n n' bytes (Err KeysUsedUp) x = absurd x

-- What a client receives by it is that envelope.
pub taken_new : (n n' : NodeParts) (bytes : List ℕ) (e : Envelope) (number : ℕ) (h : Received ℕ)
    → IsText envelope_text (envelope_value e) bytes → h ≡ New number → TakesReply n bytes (Ok h) n'
    → (LacksKeys 1 n → ⊥) × (LacksNumbers 1 n → ⊥) × (n' ≡ with_receipt n e)
taken_new n n' bytes e number h text new takes =
    by (subst (λ (x : Received ℕ). TakesReply n bytes (Ok x) n') new takes)
  where
    by : TakesReply n bytes (Ok (New number)) n'
        → (LacksKeys 1 n → ⊥) × (LacksNumbers 1 n → ⊥) × (n' ≡ with_receipt n e)
    by x =
        let same : x.0 ≡ e =
        one_envelope bytes x.0 e x.1.0.opened.0.text
        (reads_back envelope_text (envelope_value e) bytes text) in
        (x.1.1, x.1.2, x.1.3 ∙ ap (with_receipt n) same)

-- what a node that is handed an acknowledgement is then, whatever it refused
abbrev Stays : NodeParts → Ack → Result (Unit {0}) LinkFault → NodeParts → Type 0
Stays n a (Ok x) n' = n' ≡ with_ack n a
Stays n a (Err faults.KeysUsedUp) n' = ⊥
Stays n a (Err faults.NoMemory) n' = n' ≡ n
Stays n a (Err Failed) n' = n' ≡ n

-- a number passes those of a log, or it doesn't
passes_or : (v : LogVersion) (last : ℕ) → PassesNumbers v last ⊎ (PassesNumbers v last → ⊥)
passes_or One last = inr (λ h. h)
passes_or Two last = by (nat_lt 4_294_967_295 last) refl
  where
    by : (b : Bool) → nat_lt 4_294_967_295 last ≡ b
        → (4_294_967_295 < last) ⊎ (4_294_967_295 < last → ⊥)
    by true e = inl (grind (arith, nat_tests, e))
    by false e = inr (λ h. let no : nat_lt 4_294_967_295 last ≡ true = grind (arith, nat_tests, h) in absurd (cc))

-- where it takes each that it awaits, it refuses no other
may_take : (n n' : NodeParts) (a : Ack) (answer : Result (Unit {0}) LinkFault)
    → (IsAccepted n a → TakesAwaited n a answer n') → Stays n a answer n' → MayTakeAck n a answer n'
may_take n n' a (Ok x) takes is = is
may_take n n' a (Err faults.KeysUsedUp) takes is = is
may_take n n' a (Err faults.NoMemory) takes is = is
may_take n n' a (Err Failed) takes is = (is, by (passes_or n.log_version (span n.entries + n.pending + 1)))
  where
    by : LacksNumbers 1 n ⊎ (LacksNumbers 1 n → ⊥) → (IsAccepted n a → ⊥) ⊎ LacksNumbers 1 n
    by (inl lacks) = inr lacks
    by (inr enough) = inl (λ accepts. enough (takes accepts).0)

-- What a node does with the text of an acknowledgement.
pub ack_read : (b b' : NodeParts) (k : Ack) (bytes : List ℕ) (result : Result AckTaken Refusal)
    (answer : Result (Unit {0}) LinkFault) → IsText ack_text (ack_value k) bytes → TakesAck b bytes result b'
    → answer ≡ ack_told fault_of Failed result → MayTakeAck b k answer b'
ack_read b b' k bytes result answer text takes answered =
    may_take b b' k answer
    (λ h.
    awaited b b' k answer
    (accepted_by fault_of Failed b b' k bytes result answer text h takes answered))
    (subst (λ (r : Result (Unit {0}) LinkFault). Stays b k r b') (sym answered) (by result takes))
  where
    read : IsAckText bytes k
    read = reads_back ack_text (ack_value k) bytes text

    by : (r : Result AckTaken Refusal) → TakesAck b bytes r b'
        → Stays b k (ack_told fault_of Failed r) b'
    by (Ok (Logged m)) t = t.1.4 ∙ ap (with_ack b) (one_ack bytes t.0 k t.1.0.text read)
    by (Ok Already) t = t.1.3
    by (Err Garbage) t = t.1
    by (Err NotForMe) t = t.1.2
    by (Err BadSignature) t = t.1.2
    by (Err NoMemory) t = t
    by (Err GapTooWide) t = t.1.4
    by (Err NoGaps) t = absurd t
    by (Err KeysUsedUp) t = absurd t

-- The same, by the text that a call wrote.
pub ack_handed : (a n b b' : NodeParts) (number : ℕ) (k : Ack) (bytes text : List ℕ)
    (result : Result AckTaken Refusal)
    (answer : Result (Unit {0}) LinkFault) → n ≡ a
    → ((x : Ack) → ack_at (sender_of n) number ≡ Some x → IsText ack_text (ack_value x) text) → bytes ≡ text
    → TakesAck b bytes result b' → answer ≡ ack_told fault_of Failed result
    → ack_at (sender_of a) number ≡ Some k
    → MayTakeAck b k answer b'
ack_handed a n b b' number k bytes text result answer node written same takes answered h =
    ack_read b b' k bytes result answer
    (subst (IsText ack_text (ack_value k)) (sym same)
    (written k (ap (λ (x : NodeParts). ack_at (sender_of x) number) node ∙ h))) takes answered
