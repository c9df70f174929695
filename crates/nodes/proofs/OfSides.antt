-- What the client and the server each do of an exchange alone.
-- Serves: send_text, answer, hear, receive_reply.
use Rattle.std.proofs.Common.{◌≡◌, inr, ℕ, false, List, [], Result, Ok, Err, Option, Some}
use Rattle.std.proofs.Common.{None}
use Rattle.std.proofs.Common.{refl, sym, ap, subst, ◌∙◌}
use Rattle.std.specs.Prelude.{IfErr, IfOk, OnOk}
use Rattle.std.specs.Option.{option_map}
use Rattle.xdr.specs.Item.{Value}
use Rattle.xdr.specs.Texts.Text.{Text}
use Rattle.envelopes.specs.Envelope.{envelope_text, envelope_value}
use Rattle.envelopes.specs.Acknowledgement.{ack_text, ack_value}
use Rattle.envelopes.specs.declared.envelope.Envelope.{Envelope}
use Rattle.envelopes.specs.declared.acknowledgement.Ack.{Ack}
use Rattle.commitment.specs.Senders.LookUps.{ack_at, envelope_at}
use Rattle.commitment.specs.Senders.Sender.{IsSender}
use Rattle.nfs_items.specs.Timeval.{Timeval}
use Rattle.secure_log.specs.LogEntries.Chain.{span}
use Rattle.gateway.specs.declared.links.fault.LinkFault.{LinkFault}
use Rattle.gateway.specs.declared.links.fault.LinkFault.TheVariants.{KeysUsedUp, NoMemory, Failed}
use Rattle.node_logs.specs.Steps.Nodes.{NodeParts, next_number, sender_of}
use Rattle.node_logs.specs.Receiving.{ReceivesEnvelope}
use Rattle.node_logs.specs.Steps.Logging.{with_send}
use Rattle.node_logs.specs.declared.outcome.Receipt.{Receipt}
use Rattle.nodes.specs.Delivery.{MayReceive, MayTake, SendsBody, WritesText}
use Rattle.nodes.specs.Exchanges.Exchanges.{IsServed}
use Rattle.nodes.specs.Faults.{Because}
use Rattle.nodes.specs.Sides.{HasAnswered, HasReceived, IsEnvelopeText, IsReceivedAs, IsReplyAt, IsReplyText}
use Rattle.nodes.specs.Sides.{IsSentAs}
use Rattle.nodes.specs.Sides.{IsShownOf, StopsAnswering, StopsReceiving, StopsSending}
use Rattle.nodes.proofs.OfExchanges.Answered.{none_owed}
use Rattle.nodes.proofs.OfExchanges.Shown.{envelope_shown}
use Rattle.nodes.proofs.Unjoined.{ack_made, receipt_made, reply_logged}

-- ---- faults

-- A text is refused only where memory is.
pub only_memory : (t : Text) (v : Value t.item) (fault : LinkFault) (bytes : List ℕ)
    → WritesText t v (Err fault) bytes
    → Because ⊥ ⊥ fault
only_memory t v KeysUsedUp bytes h = h
only_memory t v NoMemory bytes h = tt
only_memory t v Failed bytes h = h

-- Where there is no key, and nothing can be refused, a step stops for a reason that holds of any.
pub weaker : (lacks refused : Type 0) (fault : LinkFault) → Because ⊥ ⊥ fault → Because lacks refused fault
weaker lacks refused KeysUsedUp h = absurd h
weaker lacks refused NoMemory h = tt
weaker lacks refused Failed h = absurd h

-- A step stops for a weaker reason too.
pub because : {a b x y : Type 0} (fault : LinkFault) → (a → b) → (x → y) → Because a x fault
    → Because b y fault
because KeysUsedUp f g h = f h
because NoMemory f g h = tt
because Failed f g h = g h

-- ---- the client sends

-- What it sent, and the text of its envelope.
pub sent_as : (c : NodeParts) (to : ℕ) (body : List ℕ) (c1 n : NodeParts) (number : ℕ) (text : List ℕ)
    → SendsBody c to body (Ok number) c1 → IsSender (sender_of c1) → n ≡ c1
    → ((e : Envelope) → envelope_at (sender_of n) number ≡ Some e → IsEnvelopeText e text)
    → IsSentAs c to body text c1
sent_as c to body c1 n number text sends is node written =
    let same = sends.2 in
    let x = envelope_shown (sender_of (with_send c to body)) c.entries [] c.pending to body
    (subst (λ (m : NodeParts). IsSender (sender_of m)) same is) refl in
    let e = x.0 in
    let h = x.1 in
    let shown : envelope_at (sender_of c1) (next_number c) ≡ Some e =
    ap (λ (m : NodeParts). envelope_at (sender_of m) (next_number c)) same ∙ h.there in
    record {
      left = sends.0;
      numbers = sends.1;
      sends = same;
      sender = is;
      envelope = e;
      shown = shown;
      from = h.sender;
      receiver = h.receiver;
      numbered = h.numbered;
      says = h.says;
      written =
          written e (ap (λ (m : NodeParts). envelope_at (sender_of m) number) node
          ∙ ap (envelope_at (sender_of c1)) sends.3 ∙ shown);
    }

-- It sent, and the text was written, or memory was refused.
pub sent_or_stops : (c : NodeParts) (to : ℕ) (body : List ℕ) (c1 n : NodeParts) (number : ℕ) (text : List ℕ)
    (result : Result (Unit {0}) LinkFault) → SendsBody c to body (Ok number) c1 → IsSender (sender_of c1)
    → n ≡ c1
    → ((e : Envelope) → envelope_at (sender_of n) number ≡ Some e
    → WritesText envelope_text (envelope_value e) result text)
    → OnOk result (IsSentAs c to body text c1) × IfErr result (λ f. StopsSending c to body f c1)
sent_or_stops c to body c1 n number text (Ok x) sends is node written =
    (sent_as c to body c1 n number text sends is node written, tt)
sent_or_stops c to body c1 n number text (Err f) sends is node written =
    let e = envelope_shown (sender_of (with_send c to body)) c.entries [] c.pending to body
    (subst (λ (m : NodeParts). IsSender (sender_of m)) sends.2 is) refl in
    let shown : envelope_at (sender_of n) number ≡ Some e.0 =
    ap (λ (m : NodeParts). envelope_at (sender_of m) number) (node ∙ sends.2)
    ∙ ap (envelope_at (sender_of (with_send c to body))) sends.3 ∙ e.1.there in (
      tt,
      inr (
        sends.0,
        sends.1,
        only_memory envelope_text (envelope_value e.0) f text (written e.0 shown),
        sends.2,
      ),
    )

-- ---- the server answers

-- It received an envelope.
pub has_received : (s s1 : NodeParts) (time : Timeval) (bytes : List ℕ) (e : Envelope) (r : Receipt)
    → e.to ≡ s.node
    → MayReceive s time bytes e (Ok r) s1 → HasReceived s time e r s1
has_received s s1 time bytes e r receiver may = record {
  receiver = receiver;
  left = may.0;
  numbers = may.1;
  receives = may.2;
}

-- what a server shows of a receipt, and what it did then, unless it lies
pub record IsServedAs (s : NodeParts) (time : Timeval) (e : Envelope) (r : Receipt)
    (t : NodeParts) : Type 0 where
  -- its acknowledgement
  pub ack : Ack
  -- the envelope of its reply, if there is one
  pub envelope : Option Envelope
  -- it shows both
  pub shown : IsShownOf t r.ack r.reply ack envelope
  -- the reply is the one owed
  pub served : s.lies ≡ false → IsServed s time e.body (option_map (λ (f : Envelope). f.body) envelope) t

-- The reply that is written is the body of the envelope that is shown.
pub as_written : (s t : NodeParts) (time : Timeval) (body : List ℕ) (o : Option Envelope)
    (reply : Option (List ℕ)) (bytes : List ℕ) → IsReplyText o reply bytes
    → IsServed s time body (option_map (λ (f : Envelope). f.body) o) t → IsServed s time body reply t
as_written s t time body None None bytes text h = h
as_written s t time body None (Some reply) bytes text h = absurd text
as_written s t time body (Some e) None bytes text h = absurd text
as_written s t time body (Some e) (Some reply) bytes text h =
    subst (λ (b : List ℕ). IsServed s time body (Some b) t) (sym text.1) h

-- What a server shows of a receipt, and what it did.
pub served_as : (s t : NodeParts) (time : Timeval) (e : Envelope) (r : Receipt)
    → ReceivesEnvelope s time e r t
    → IsSender (sender_of t) → IsServedAs s time e r t
served_as s t time e r receives is =
    let a = ack_made s t e time r receives is in
    by a.0 a.1 r.reply refl
  where
    by : (a : Ack) → ack_at (sender_of t) r.ack ≡ Some a → (o : Option ℕ) → r.reply ≡ o
        → IsServedAs s time e r t
    by a made None none = record {
      ack = a;
      envelope = None;
      shown = record {
        made = made;
        at = subst (λ (o : Option ℕ). IsReplyAt (sender_of t) o None) (sym none) tt;
      };
      served = λ plain. none_owed s t time e.body e r refl receives none;
    }
    by a made (Some number) some =
        let x = reply_logged s t time e.body e r number refl receives is some in
        record {
          ack = a;
          envelope = Some x.envelope;
          shown = record {
            made = made;
            at = subst (λ (o : Option ℕ). IsReplyAt (sender_of t) o (Some x.envelope)) (sym some) x.there;
          };
          served = λ plain. x.served plain;
        }

-- It received the envelope, and what it shows was copied.
pub answered : {X : Type 0} (ack : X → Ack) (reply : X → Option Envelope) (s s1 n : NodeParts) (time : Timeval)
    (e : Envelope) (r : Receipt) (result : Result X LinkFault) → HasReceived s time e r s1
    → IsSender (sender_of s1)
    → n ≡ s1
    → ((a : Ack) (f : Option Envelope) → IsShownOf n r.ack r.reply a f
    → IfOk result (λ x. (ack x ≡ a) × (reply x ≡ f)))
    → IfOk result (λ x. HasAnswered s time e (ack x) (reply x) s1)
answered ack reply s s1 n time e r (Err f) has is node shown = tt
answered ack reply s s1 n time e r (Ok x) has is node shown =
    let y = served_as s s1 time e r has.receives is in
    let same = shown y.ack y.envelope
    (subst (λ (m : NodeParts). IsShownOf m r.ack r.reply y.ack y.envelope) (sym node) y.shown) in
    record {
      receipt = r;
      received = has;
      sender = is;
      shown = record {
        made = y.shown.made ∙ ap Some (sym same.0);
        at = subst (λ (o : Option Envelope). IsReplyAt (sender_of s1) r.reply o) (sym same.1) y.shown.at;
      };
    }

-- The reply is the one owed.
pub answered_plainly : {X : Type 0} (ack : X → Ack) (reply : X → Option Envelope) (s s1 n : NodeParts)
    (time : Timeval) (e : Envelope) (r : Receipt) (result : Result X LinkFault) → s.lies ≡ false
    → HasReceived s time e r s1 → IsSender (sender_of s1) → n ≡ s1
    → ((a : Ack) (f : Option Envelope) → IsShownOf n r.ack r.reply a f
    → IfOk result (λ x. (ack x ≡ a) × (reply x ≡ f)))
    → IfOk result (λ x. IsServed s time e.body (option_map (λ (f : Envelope). f.body) (reply x)) s1)
answered_plainly ack reply s s1 n time e r (Err f) plain has is node shown = tt
answered_plainly ack reply s s1 n time e r (Ok x) plain has is node shown =
    let y = served_as s s1 time e r has.receives is in
    let same = shown y.ack y.envelope
    (subst (λ (m : NodeParts). IsShownOf m r.ack r.reply y.ack y.envelope) (sym node) y.shown) in
    subst (λ (o : Option Envelope). IsServed s time e.body (option_map (λ (f : Envelope). f.body) o) s1)
    (sym same.1) (y.served plain)

-- It received the envelope, and memory was refused for the texts.
pub not_answered : {X : Type 0} (s s1 n : NodeParts) (time : Timeval) (e : Envelope) (r : Receipt)
    (call : List ℕ)
    (result : Result X LinkFault) → HasReceived s time e r s1 → IsSender (sender_of s1) → n ≡ s1
    → ((a : Ack) (f : Option Envelope) → IsShownOf n r.ack r.reply a f → IfErr result (λ g. g ≡ NoMemory))
    → IfErr result (λ g. StopsAnswering s time e call g s1)
not_answered s s1 n time e r call (Ok o) has is node refused = tt
not_answered s s1 n time e r call (Err f) has is node refused =
    let x = served_as s s1 time e r has.receives is in
    let why = refused x.ack x.envelope
    (subst (λ (m : NodeParts). IsShownOf m r.ack r.reply x.ack x.envelope) (sym node) x.shown) in
    inr (r, (has, subst (Because ⊥ ⊥) (sym why) tt))

-- ---- the client receives the reply

-- It received the reply, and the text of its acknowledgement was written, or memory was refused.
pub received_or_stops : (c c1 n : NodeParts) (e : Envelope) (number : ℕ) (bytes text : List ℕ)
    (result : Result (Unit {0}) LinkFault) → MayTake c bytes e (Ok tt) c1 → IsSender (sender_of c1) → n ≡ c1
    → number ≡ span c1.entries
    → ((a : Ack) → ack_at (sender_of n) number ≡ Some a → WritesText ack_text (ack_value a) result text)
    → OnOk result (IsReceivedAs c e text c1) × IfErr result (λ f. StopsReceiving c e bytes f c1)
received_or_stops c c1 n e number bytes text result may is node last written =
    by result (written a.0 (ap (λ (m : NodeParts). ack_at (sender_of m) number) node ∙ a.1))
  where
    a : (a : Ack) × (ack_at (sender_of c1) number ≡ Some a)
    a = receipt_made c c1 number e may.2 is last

    by : (r : Result (Unit {0}) LinkFault) → WritesText ack_text (ack_value a.0) r text
        → OnOk r (IsReceivedAs c e text c1) × IfErr r (λ f. StopsReceiving c e bytes f c1)
    by (Ok x) w = (
      record {
        left = may.0;
        numbers = may.1;
        received = may.2;
        ack = a.0;
        made = ap (ack_at (sender_of c1)) (sym last) ∙ a.1;
        written = w;
      },
      tt,
    )
    by (Err f) w = (tt, inr (may.0, may.1, may.2, only_memory ack_text (ack_value a.0) f text w))
