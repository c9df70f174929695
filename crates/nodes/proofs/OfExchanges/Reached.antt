-- What a node shows is accepted by another that it reaches.
-- Serves: laws.calls_are_accepted, and nodes: deliver.
use Rattle.std.proofs.Common.{◌≡◌, inl, inr, ℕ, List, Result, Ok, Err, Option, Some, None, refl, sym, ap}
use Rattle.std.proofs.Common.{subst, ◌∙◌}
use Rattle.std.specs.Prelude.{IsSome, IsSomeAnd}
use Rattle.std.specs.FinMap.{get}
use Rattle.xdr.specs.Texts.Text.{IsText}
use Rattle.authenticator.specs.Roster.{member_of}
use Rattle.authenticator.specs.Signed.{IsSignedBy, IsSignedIn}
use Rattle.authenticator.specs.declared.authenticator.Authenticator.{Authenticator}
use Rattle.authenticator.specs.declared.member.Kind.{Kind}
use Rattle.authenticator.specs.declared.member.Member.{Member}
use Rattle.envelopes.specs.Envelope.{envelope_shows, envelope_text, envelope_value}
use Rattle.envelopes.specs.Acknowledgement.{ack_shows, ack_text, ack_value}
use Rattle.envelopes.specs.Checking.{IsAckText}
use Rattle.envelopes.specs.declared.envelope.Envelope.{Envelope}
use Rattle.envelopes.specs.declared.acknowledgement.Ack.{Ack}
use Rattle.commitment.specs.Senders.LookUps.{IsAuthenticatorAt, FitsSend, ack_at, envelope_at}
use Rattle.commitment.specs.Receiver.{Finds}
use Rattle.commitment.specs.Senders.Sender.{IsSender}
use Rattle.commitment.specs.declared.refusal.Refusal.{Refusal}
use Rattle.commitment.specs.declared.refusal.Refusal.TheVariants.{Garbage, NotForMe, BadSignature, KeysUsedUp}
use Rattle.commitment.specs.declared.refusal.Refusal.TheVariants.{NoMemory, NoGaps, GapTooWide}
use Rattle.commitment.proofs.OfSenders.Meanings.{ack_law, authenticator_law, envelope_law}
use Rattle.nfs_items.specs.Timeval.{Timeval}
use Rattle.node_logs.specs.Steps.Nodes.{NodeParts, receiver_of, sender_of}
use Rattle.node_logs.specs.Nodes.{LacksKeys, LacksNumbers}
use Rattle.node_logs.specs.Receiving.{Receives, ReceivesEnvelope}
use Rattle.node_logs.specs.Steps.Serving.{entries_for}
use Rattle.node_logs.specs.AckTaking.{TakesAck, with_ack}
use Rattle.commitment.specs.declared.outcome.Received.{Received}
use Rattle.commitment.specs.declared.outcome.Received.TheVariants.{New}
use Rattle.node_logs.specs.declared.outcome.AckTaken.{AckTaken}
use Rattle.node_logs.specs.declared.outcome.AckTaken.TheVariants.{Logged, Already}
use Rattle.node_logs.specs.declared.outcome.Receipt.{Receipt}
use Rattle.nodes.specs.Exchanges.Laws.{IsAccepted}
use Rattle.nodes.specs.Exchanges.Members.{IsListed, IsMemberAs}
use Rattle.nodes.specs.Exchanges.Reaching.{AckReaches, IsTaken, Reaches, ack_told}
use Rattle.nodes.proofs.OfExchanges.Texts.{one_ack, one_envelope, reads_back}

-- ---- signatures

-- What a node signed at a number is signed in each roster that lists it.
signed_in : (ms : List Member) (kind : Kind) (n : NodeParts) (number : ℕ) (a : Authenticator)
    → IsAuthenticatorAt (sender_of n) number a → IsListed ms kind n → IsSignedIn ms a
signed_in ms kind n number a made listed = by (member_of ms n.node) refl listed
  where
    by : (o : Option Member) → member_of ms n.node ≡ o → IsSomeAnd o (IsMemberAs kind n) → IsSignedIn ms a
    by None e h = absurd h
    by (Some m) e h =
        let there : member_of ms a.node ≡ Some m = ap (member_of ms) made.place.node ∙ e in
        subst (λ o. IsSomeAnd o (λ m. IsSignedBy m a)) (sym there) (made.signed m h.keys.root h.keys.height)

made_envelope : (n : NodeParts) (number : ℕ) (e : Envelope) → IsSender (sender_of n)
    → envelope_at (sender_of n) number ≡ Some e → IsAuthenticatorAt (sender_of n) number (envelope_shows e)
made_envelope n number e is h =
    authenticator_law (sender_of n) number (envelope_shows e) is (envelope_law (sender_of n) number e h)

made_ack : (n : NodeParts) (number : ℕ) (a : Ack) → IsSender (sender_of n)
    → ack_at (sender_of n) number ≡ Some a → IsAuthenticatorAt (sender_of n) number (ack_shows a)
made_ack n number a is h = authenticator_law (sender_of n) number (ack_shows a) is
    (ack_law (sender_of n) number a h)

-- What an acknowledgement that reaches a node shows is signed in that node's roster.
pub ack_signed : (a b : NodeParts) (kind : Kind) (number : ℕ) (k : Ack) → IsSender (sender_of a)
    → AckReaches a kind number b k → IsSignedIn b.roster (ack_shows k)
ack_signed a b kind number k is h =
    signed_in b.roster kind a number (ack_shows k) (made_ack a number k is h.ack) h.listed

-- ---- envelopes

-- The text of an envelope that reaches a node opens there, and its message is new.
pub found : (a b : NodeParts) (kind : Kind) (number : ℕ) (e : Envelope) (bytes : List ℕ)
    → IsSender (sender_of a)
    → Reaches a kind number b e → IsText envelope_text (envelope_value e) bytes
    → Finds (receiver_of b) bytes e None
found a b kind number e bytes is h text =
    let made = made_envelope a number e is h.envelope in
    record {
      opened = (
        record {
          text = reads_back envelope_text (envelope_value e) bytes text;
          receiver = h.receiver;
          sender = λ same. h.two (sym made.place.node ∙ same);
        },
        signed_in b.roster kind a number (envelope_shows e) made h.listed,
      );
      found = h.new;
    }

-- The same, by the text that a call wrote.
pub call_found : (a n b : NodeParts) (kind : Kind) (number : ℕ) (e : Envelope) (bytes text : List ℕ) → n ≡ a
    → IsSender (sender_of n) → ((x : Envelope) → envelope_at (sender_of n) number ≡ Some x
    → IsText envelope_text (envelope_value x) text) → bytes ≡ text → Reaches a kind number b e
    → Finds (receiver_of b) bytes e None
call_found a n b kind number e bytes text node is written same h =
    let shown : envelope_at (sender_of n) number ≡ Some e =
    ap (λ (x : NodeParts). envelope_at (sender_of x) number) node ∙ h.envelope in
    found a b kind number e bytes (subst (λ (x : NodeParts). IsSender (sender_of x)) node is) h
    (subst (IsText envelope_text (envelope_value e)) (sym same) (written e shown))

-- What a server receives by it.
pub received_as : (n n' : NodeParts) (time : Timeval) (bytes : List ℕ) (e : Envelope) (r : Receipt)
    (h : Received Receipt)
    → Finds (receiver_of n) bytes e None → h ≡ New r → Receives n time bytes (Ok h) n'
    → (LacksKeys 2 n → ⊥) × (LacksNumbers (entries_for e.body) n → ⊥) × ReceivesEnvelope n time e r n'
received_as n n' time bytes e r h f is receives =
    by (subst (λ (x : Received Receipt). Receives n time bytes (Ok x) n') is receives)
  where
    by : Receives n time bytes (Ok (New r)) n'
        → (LacksKeys 2 n → ⊥) × (LacksNumbers (entries_for e.body) n → ⊥) × ReceivesEnvelope n time e r n'
    by x =
        let same : x.0 ≡ e = one_envelope bytes x.0 e x.1.0.opened.0.text f.opened.0.text in (
          x.1.1,
          subst (λ (y : Envelope). LacksNumbers (entries_for y.body) n → ⊥) same x.1.2,
          subst (λ (y : Envelope). ReceivesEnvelope n time y r n') same x.1.3,
        )

-- ---- acknowledgements

-- The text of an acknowledgement that a node accepts is taken there, unless memory is refused, or its log has no
-- number for the ACK.
pub accepted : {F : Type 0} (told : Refusal → F) (twice : F) (b b' : NodeParts) (k : Ack) (bytes : List ℕ)
    (result : Result AckTaken Refusal) → IsText ack_text (ack_value k) bytes → IsAccepted b k
    → TakesAck b bytes result b' → IsTaken told b k (ack_told told twice result) b'
accepted told twice b b' k bytes result text h takes = by result takes
  where
    read : IsAckText bytes k
    read = reads_back ack_text (ack_value k) bytes text

    same : (x : Ack) → IsAckText bytes x → x ≡ k
    same x t = one_ack bytes x k t read

    none_some : {X : Type 0} (o : Option X) → o ≡ None → IsSome o → ⊥
    none_some None e s = absurd (cc)
    none_some (Some x) e s = absurd (cc)

    by : (r : Result AckTaken Refusal) → TakesAck b bytes r b' → IsTaken told b k (ack_told told twice r) b'
    by (Ok (Logged n)) t = inl (refl, t.1.4 ∙ ap (with_ack b) (same t.0 t.1.0.text))
    by (Ok Already) t =
        let none : get b.state.sends k.seq ≡ None =
        sym (ap (λ (x : Ack). get b.state.sends x.seq) (same t.0 t.1.0.text)) ∙ t.1.2 in
        absurd (none_some (get b.state.sends k.seq) none h.awaited)
    by (Err Garbage) t = absurd (let text = read in let none = t.0 in cc)
    by (Err NotForMe) t = absurd (t.1.1
        (subst (λ (x : Ack). FitsSend (sender_of b) x) (sym (same t.0 t.1.0)) h.fits))
    by (Err BadSignature) t =
        absurd (t.1.1 (subst (λ (x : Ack). IsSignedIn b.roster (ack_shows x))
        (sym (same t.0 t.1.0.text)) h.signed))
    by (Err NoMemory) t = inr (inl (refl, t))
    by (Err GapTooWide) t = inr (inr (refl, t.1.3, t.1.4))
    by (Err NoGaps) t = absurd t
    by (Err KeysUsedUp) t = absurd t

-- The same, by what a call made of it.
pub accepted_by : {F : Type 0} (told : Refusal → F) (twice : F) (b b' : NodeParts) (k : Ack) (bytes : List ℕ)
    (result : Result AckTaken Refusal) (answer : Result (Unit {0}) F) → IsText ack_text (ack_value k) bytes
    → IsAccepted b k → TakesAck b bytes result b' → answer ≡ ack_told told twice result
    → IsTaken told b k answer b'
accepted_by {F = F} told twice b b' k bytes result answer text h takes answered =
    subst (λ (r : Result (Unit {0}) F). IsTaken told b k r b') (sym answered)
    (accepted told twice b b' k bytes result text h takes)

-- An acknowledgement that reaches a node is accepted there.
pub ack_accepted : (a b : NodeParts) (kind : Kind) (number : ℕ) (k : Ack) → IsSender (sender_of a)
    → AckReaches a kind number b k → IsAccepted b k
ack_accepted a b kind number k is h =
    record { fits = h.fits; signed = ack_signed a b kind number k is h; awaited = h.awaited }

-- The same, by the text that a call wrote.
pub taken_by : {F : Type 0} (told : Refusal → F) (twice : F) (a n b b' : NodeParts) (kind : Kind) (number : ℕ)
    (k : Ack)
    (bytes text : List ℕ) (result : Result AckTaken Refusal) (answer : Result (Unit {0}) F) → n ≡ a
    → IsSender (sender_of n)
    → ((x : Ack) → ack_at (sender_of n) number ≡ Some x → IsText ack_text (ack_value x) text) → bytes ≡ text
    → TakesAck b bytes result b' → answer ≡ ack_told told twice result → AckReaches a kind number b k
    → IsTaken told b k answer b'
taken_by told twice a n b b' kind number k bytes text result answer node is written same takes answered h =
    let shown : ack_at (sender_of n) number ≡ Some k =
    ap (λ (x : NodeParts). ack_at (sender_of x) number) node ∙ h.ack in
    accepted_by told twice b b' k bytes result answer
    (subst (IsText ack_text (ack_value k)) (sym same) (written k shown))
    (ack_accepted a b kind number k (subst (λ (x : NodeParts). IsSender (sender_of x)) node is) h) takes
    answered
