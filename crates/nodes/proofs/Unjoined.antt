-- An exchange between any two nodes, whatever either received of others before.
-- Serves: exchange, ask, bring_back, answer, receive_reply.
use Rattle.std.proofs.Common.{◌≡◌, inl, inr, ℕ, ◌+◌, Bool, true, false, List, [], ◌∷◌, ◌++◌, Ok, Err}
use Rattle.std.proofs.Common.{Option, Some, None, refl, sym, ap, subst, ◌∙◌, arith, append_assoc}
use Rattle.std.proofs.lemmas.Option.{same_Some}
use Rattle.envelopes.specs.declared.envelope.Envelope.{Envelope}
use Rattle.envelopes.specs.declared.acknowledgement.Ack.{Ack}
use Rattle.commitment.specs.Senders.LookUps.{ack_at, envelope_at}
use Rattle.commitment.specs.Senders.Sender.{IsSender}
use Rattle.nfs_items.specs.Timeval.{Timeval}
use Rattle.server_spec.specs.Replies.{reply_owed}
use Rattle.gateway.specs.declared.links.fault.LinkFault.{LinkFault}
use Rattle.gateway.specs.declared.links.fault.LinkFault.TheVariants.{KeysUsedUp, NoMemory, Failed}
use Rattle.secure_log.specs.LogEntries.Chain.{Logged, span}
use Rattle.secure_log.proofs.OfLogEntries.Pairs.{span-snoc}
use Rattle.secure_log.specs.declared.log_entries.entry.Entry.TheVariants.{Send, Recv, Clock}
use Rattle.node_logs.specs.replay_spec.LogLaws.HonestServers.{heard_entries, next_logged}
use Rattle.node_logs.specs.Steps.Nodes.{NodeParts, next_number, sender_of}
use Rattle.node_logs.specs.Steps.Logging.{with_receipt, with_send}
use Rattle.node_logs.specs.Steps.Serving.{entries_for, reading_at, reply_told, with_last_bit_changed}
use Rattle.node_logs.specs.Nodes.{LacksKeys, LacksNumbers}
use Rattle.node_logs.specs.Receiving.{ReceivesEnvelope, receipt_from}
use Rattle.node_logs.specs.AckTaking.{with_ack}
use Rattle.node_logs.specs.declared.outcome.Receipt.{Receipt}
use Rattle.nodes.specs.Exchanges.Exchanges.{IsAsked, IsCall, IsHeard, IsReceived, IsReplied, IsServed}
use Rattle.nodes.specs.Exchanges.Exchanges.{having_called}
use Rattle.nodes.specs.Delivery.{MayReceive, MayTake, MayTakeAck}
use Rattle.nodes.specs.Exchanges.Laws.{IsAccepted}
use Rattle.nodes.specs.Faults.{MayAsk, MayStopAtReply, ack_lacks, ack_refused, call_lacks, call_refused, heard}
use Rattle.nodes.specs.Faults.{received, receipt_lacks, receipt_refused, reply_lacks, reply_refused, sent}
use Rattle.nodes.specs.Faults.{unreceived}
use Rattle.nodes.proofs.OfExchanges.Shown.{ack_shown, envelope_shown}
use Rattle.nodes.proofs.OfExchanges.Called.{recv_first}
use Rattle.nodes.proofs.OfExchanges.Answered.{served_by}
use Rattle.nodes.proofs.OfExchanges.Answered.{three}

-- ---- the call

-- what the client's SEND is
pub record IsSent (c s : NodeParts) (body : List ℕ) (c1 : NodeParts) (number : ℕ) : Type 0 where
  -- the client has a key left
  pub left : ¬ LacksKeys 1 c
  -- its log has a number for the SEND
  pub numbers : ¬ LacksNumbers 1 c
  -- the client is as it is after the SEND
  pub is : c1 ≡ having_called c s body
  -- the envelope of the SEND
  pub envelope : Envelope
  -- it is the call with this body
  pub call : IsCall c s body envelope
  -- the client shows it at the number
  pub shown : envelope_at (sender_of c1) number ≡ Some envelope

-- What the client's SEND is, once it is logged: its envelope is the call.
pub is_sent : (c s : NodeParts) (to : ℕ) (body : List ℕ) (c1 : NodeParts) (number : ℕ) → to ≡ s.node
    → (¬ LacksKeys 1 c) × (¬ LacksNumbers 1 c) × (c1 ≡ with_send c to body) × (number ≡ next_number c)
    → IsSender (sender_of c1)
    → IsSent c s body c1 number
is_sent c s to body c1 number at sends is =
    let same : c1 ≡ having_called c s body = sends.2 ∙ ap (λ (k : ℕ). with_send c k body) at in
    let x = envelope_shown (sender_of (having_called c s body)) c.entries [] c.pending s.node body
    (subst (λ (n : NodeParts). IsSender (sender_of n)) same is) refl in
    let h = x.1 in
    record {
      left = sends.0;
      numbers = sends.1;
      is = same;
      envelope = x.0;
      call = record {
        shown = h.there;
        sender = h.sender;
        receiver = h.receiver;
        numbered = h.numbered;
        stands = h.stands;
        says = h.says;
      };
      shown = ap (λ (n : NodeParts). envelope_at (sender_of n) number) same
          ∙ ap (envelope_at (sender_of (having_called c s body))) sends.3 ∙ h.there;
    }

-- The server doesn't receive it.
pub not_heard : (c s : NodeParts) (time : Timeval) (body : List ℕ) (c1 s1 : NodeParts) (number : ℕ)
    (bytes : List ℕ) (fault : LinkFault)
    → (h : IsSent c s body c1 number)
    → ((e : Envelope) → envelope_at (sender_of c1) number ≡ Some e → MayReceive s time bytes e (Err fault) s1)
    → MayAsk c s time body (Err fault) c1 s1
not_heard c s time body c1 s1 number bytes fault h receives = by fault (receives h.envelope h.shown)
  where
    by : (f : LinkFault) → MayReceive s time bytes h.envelope (Err f) s1 → MayAsk c s time body (Err f) c1 s1
    by KeysUsedUp x = inr (h.left, h.numbers, x.0, h.is, x.1)
    by NoMemory x = sent h.left h.numbers h.is x
    by Failed (same, inl refuses) =
        inr (h.is, call_refused h.envelope bytes h.left h.numbers h.call refuses same)
    by Failed (same, inr lacks) =
        inl (call_lacks h.left h.numbers lacks.0
        (subst (λ (b : List ℕ). LacksNumbers (entries_for b) s) h.call.says lacks.1) h.is same)

-- It receives it.
pub heard_it : (c s : NodeParts) (time : Timeval) (body : List ℕ) (c1 s1 : NodeParts) (number : ℕ)
    (bytes : List ℕ) (r : Receipt)
    → IsSent c s body c1 number
    → ((e : Envelope) → envelope_at (sender_of c1) number ≡ Some e → MayReceive s time bytes e (Ok r) s1)
    → IsHeard c s time body r s1
heard_it c s time body c1 s1 number bytes r h receives =
    let x = receives h.envelope h.shown in
    record {
      left = h.left;
      numbers = h.numbers;
      envelope = h.envelope;
      call = h.call;
      server_left = x.0;
      server_numbers = subst (λ (b : List ℕ). ¬ LacksNumbers (entries_for b) s) h.call.says x.1;
      receives = x.2;
    }

-- The server shows its acknowledgement.
pub ack_made : (s t : NodeParts) (e : Envelope) (time : Timeval) (r : Receipt) → ReceivesEnvelope s time e r t
    → IsSender (sender_of t) → (a : Ack) × (ack_at (sender_of t) r.ack ≡ Some a)
ack_made s t e time r receives is =
    let reading = reading_at s time in
    let first = recv_first s.pending e reading (reply_told s.lies (reply_owed receives.world reading e.body)) in
    let recv : Logged = record { skipped = s.pending; entry = Recv e.from e.seq e.prev e.body e.signature } in
    let log : t.entries ≡ s.entries ++ recv ∷ first.0 =
    ap (λ (x : NodeParts). x.entries) receives.served ∙ ap (λ (es : List Logged). s.entries ++ es) first.1 in
    let x = ack_shown (sender_of t) s.entries first.0 s.pending e.from e.seq e.prev e.body e.signature is log in
    (x.0, ap (ack_at (sender_of t)) (ap (λ (x : Receipt). x.ack) receives.receipt) ∙ x.1.there)

-- With the acknowledgement taken, the call is asked.
pub asked_it : (c s : NodeParts) (time : Timeval) (body : List ℕ) (c1 s1 c2 : NodeParts) (number : ℕ)
    (r : Receipt)
    → IsSent c s body c1 number → IsHeard c s time body r s1 → IsSender (sender_of s1)
    → ((a : Ack) → ack_at (sender_of s1) r.ack ≡ Some a → MayTakeAck c1 a (Ok tt) c2)
    → IsAsked c s time body r c2 s1
asked_it c s time body c1 s1 c2 number r h done is takes =
    let x = ack_made s s1 done.envelope time r done.receives is in
    record {
      heard = done;
      ack = x.0;
      made = x.1;
      taken = takes x.0 x.1
          ∙ ap (λ (n : NodeParts). with_ack n x.0) h.is;
    }

-- Where the client doesn't take the acknowledgement, the call stops there.
pub not_asked : (c s : NodeParts) (time : Timeval) (body : List ℕ) (c1 s1 c2 : NodeParts) (number : ℕ)
    (r : Receipt)
    (fault : LinkFault) → IsSent c s body c1 number → IsHeard c s time body r s1 → IsSender (sender_of s1)
    → ((a : Ack) → ack_at (sender_of s1) r.ack ≡ Some a → MayTakeAck c1 a (Err fault) c2)
    → MayAsk c s time body (Err fault) c2 s1
not_asked c s time body c1 s1 c2 number r fault h done is takes =
    let x = ack_made s s1 done.envelope time r done.receives is in
    by fault x.0 x.1 (takes x.0 x.1)
  where
    by : (f : LinkFault) (a : Ack) → ack_at (sender_of s1) r.ack ≡ Some a → MayTakeAck c1 a (Err f) c2
        → MayAsk c s time body (Err f) c2 s1
    by KeysUsedUp a made t = absurd t
    by NoMemory a made t = heard r done (t ∙ h.is)
    by Failed a made (same, inl refuses) =
        inr (
          same ∙ h.is,
          ack_refused r a done made (subst (λ (n : NodeParts). ¬ IsAccepted n a) (sym same) refuses),
        )
    by Failed a made (same, inr lacks) =
        inl (ack_lacks r done (subst (λ (n : NodeParts). LacksNumbers 1 n) h.is lacks) (same ∙ h.is))

-- ---- the reply

-- the client that has received the reply
pub taken_it : (c s c1 : NodeParts) (number : ℕ) (bytes : List ℕ) (e : Envelope)
    → envelope_at (sender_of s) number ≡ Some e
    → MayTake c bytes e (Ok tt) c1 → IsReceived c s number e c1
taken_it c s c1 number bytes e there takes = record {
  envelope = there;
  left = takes.0;
  numbers = takes.1;
  received = takes.2;
}

-- The client doesn't take it.
pub not_taken : (c s c1 : NodeParts) (number : ℕ) (bytes : List ℕ) (e : Envelope) (fault : LinkFault)
    → envelope_at (sender_of s) number ≡ Some e
    → MayTake c bytes e (Err fault) c1
    → MayStopAtReply c s number fault c1 s
not_taken c s c1 number bytes e KeysUsedUp there t = (t.0, t.1, refl)
not_taken c s c1 number bytes e NoMemory there t = unreceived t refl
not_taken c s c1 number bytes e Failed there (same, inl refuses) =
    inr (reply_refused e bytes there refuses same refl)
not_taken c s c1 number bytes e Failed there (same, inr lacks) = inl (reply_lacks lacks.0 lacks.1 same refl)

-- It shows its acknowledgement.
pub receipt_made : (c c1 : NodeParts) (receipt : ℕ) (e : Envelope) → c1 ≡ with_receipt c e
    → IsSender (sender_of c1)
    → receipt ≡ span c1.entries → (a : Ack) × (ack_at (sender_of c1) receipt ≡ Some a)
receipt_made c c1 receipt e got is last =
    let recv : Logged = record { skipped = c.pending; entry = Recv e.from e.seq e.prev e.body e.signature } in
    let log : c1.entries ≡ c.entries ++ recv ∷ [] = ap (λ (x : NodeParts). x.entries) got in
    let place : receipt ≡ next_number c = last ∙ ap span log ∙ span-snoc c.entries recv in
    let x = ack_shown (sender_of c1) c.entries [] c.pending e.from e.seq e.prev e.body e.signature is log in
    (x.0, ap (ack_at (sender_of c1)) place ∙ x.1.there)

-- With both the reply and its acknowledgement taken, the reply is brought back.
pub brought_back : (c s c1 t : NodeParts) (number receipt : ℕ) (reply : List ℕ) (e : Envelope)
    → IsReceived c s number e c1 → IsSender (sender_of c1) → receipt ≡ span c1.entries → reply ≡ e.body
    → ((a : Ack) → ack_at (sender_of c1) receipt ≡ Some a → MayTakeAck s a (Ok tt) t)
    → IsReplied c s number reply c1 t
brought_back c s c1 t number receipt reply e got is last says acknowledged =
    let x = receipt_made c c1 receipt e got.received is last in
    record {
      envelope = e;
      received = got;
      body = says;
      ack = x.0;
      made = ap (ack_at (sender_of c1)) (sym last) ∙ x.1;
      taken = acknowledged x.0 x.1;
    }

-- Where the server doesn't take the acknowledgement, the reply stops there.
pub not_brought : (c s c1 t : NodeParts) (number receipt : ℕ) (fault : LinkFault) (e : Envelope)
    → IsReceived c s number e c1 → IsSender (sender_of c1) → receipt ≡ span c1.entries
    → ((a : Ack) → ack_at (sender_of c1) receipt ≡ Some a → MayTakeAck s a (Err fault) t)
    → MayStopAtReply c s number fault c1 t
not_brought c s c1 t number receipt fault e got is last acknowledged =
    let x = receipt_made c c1 receipt e got.received is last in
    by fault x.0 x.1 (acknowledged x.0 x.1)
  where
    by : (f : LinkFault) (a : Ack) → ack_at (sender_of c1) receipt ≡ Some a → MayTakeAck s a (Err f) t
        → MayStopAtReply c s number f c1 t
    by KeysUsedUp a made k = absurd k
    by NoMemory a made k = received e got k
    by Failed a made (same, inl refuses) =
        inr (receipt_refused e a got (ap (ack_at (sender_of c1)) (sym last) ∙ made) refuses same)
    by Failed a made (same, inr lacks) = inl (receipt_lacks e got lacks same)

-- ---- what the server did

-- A server shows a reply that it owes; unless it lies, that is the reply owed to the body.
pub record IsShown (s t : NodeParts) (time : Timeval) (body : List ℕ) (number : ℕ) : Type 0 where
  -- the envelope of the reply
  pub envelope : Envelope
  -- the server shows it at the number
  pub there : envelope_at (sender_of t) number ≡ Some envelope
  -- its body is the reply owed
  pub served : s.lies ≡ false → IsServed s time body (Some envelope.body) t

some_told : (lies : Bool) (reply : List ℕ)
    → (told : List ℕ) × ((reply_told lies (Some reply) ≡ Some told) × (lies ≡ false → told ≡ reply))
some_told false reply = (reply, (refl, λ plain. refl))
some_told true reply = (with_last_bit_changed reply, (refl, λ plain. absurd (cc)))

-- The reply that a receipt names is logged, and shown at its number.
pub reply_logged : (s t : NodeParts) (time : Timeval) (body : List ℕ) (e : Envelope) (r : Receipt)
    (number : ℕ)
    → e.body ≡ body → ReceivesEnvelope s time e r t → IsSender (sender_of t) → r.reply ≡ Some number
    → IsShown s t time body number
reply_logged s t time body e r number says receives is owed =
    by (reply_owed receives.world (reading_at s time) e.body) refl
  where
    by : (o : Option (List ℕ)) → reply_owed receives.world (reading_at s time) e.body ≡ o
        → IsShown s t time body number
    by None x =
        let none : r.reply ≡ None =
        ap (λ (y : Receipt). y.reply) receives.receipt
        ∙ ap (λ (o : Option (List ℕ)). (receipt_from (next_number s) o).reply) x in
        absurd (cc)
    by (Some reply) x =
        let some : r.reply ≡ Some (next_number s + 2) =
        ap (λ (y : Receipt). y.reply) receives.receipt
        ∙ ap (λ (o : Option (List ℕ)). (receipt_from (next_number s) o).reply) x in
        let at : number ≡ next_number s + 2 = same_Some _ _ (sym owed ∙ some) in
        let reading = reading_at s time in
        let y = some_told s.lies reply in
        let recv : Logged = record { skipped = s.pending; entry = Recv e.from e.seq e.prev e.body e.signature } in
        let clock : Logged = next_logged (Clock reading.seconds reading.microseconds) in
        let sent : Logged = next_logged (Send e.from y.0) in
        let front = s.entries ++ recv ∷ clock ∷ [] in
        let log : t.entries ≡ front ++ sent ∷ [] =
        ap (λ (n : NodeParts). n.entries) receives.served
        ∙ ap (λ (o : Option (List ℕ)). s.entries
        ++ heard_entries s.pending e.from e.seq e.prev e.body e.signature reading o)
        (ap (reply_told s.lies) x ∙ y.1.0)
        ∙ sym (append_assoc s.entries (recv ∷ clock ∷ []) (sent ∷ [])) in
        let long = three s.pending s.entries recv.entry clock.entry in
        let place : span front + 1 + 0 ≡ number = omega (arith, long, at) in
        let f = envelope_shown (sender_of t) front [] 0 e.from y.0 is log in
        record {
          envelope = f.0;
          there = ap (envelope_at (sender_of t)) (sym place) ∙ f.1.there;
          served = λ plain.
              subst (λ (o : Option (List ℕ)). IsServed s time body o t)
              (x ∙ ap (λ (b : List ℕ). Some b) (sym (f.1.says ∙ y.1.1 plain)))
              (served_by s t time body e r says receives);
        }

-- The reply that a call's receipt names is shown at its number.
pub reply_shown : (c s c1 t : NodeParts) (time : Timeval) (body : List ℕ) (r : Receipt) (number : ℕ)
    → IsAsked c s time body r c1 t → IsSender (sender_of t) → r.reply ≡ Some number
    → IsShown s t time body number
reply_shown c s c1 t time body r number asked is owed =
    reply_logged s t time body asked.heard.envelope r number asked.heard.call.says asked.heard.receives is
    owed

-- The reply that is brought back is the one that the server shows.
pub served_it : (c1 s t c2 t2 : NodeParts) (time : Timeval) (body : List ℕ) (number : ℕ) (reply : List ℕ)
    → IsShown s t time body number → s.lies ≡ false → IsReplied c1 t number reply c2 t2
    → IsServed s time body (Some reply) t2
served_it c1 s t c2 t2 time body number reply shown plain k =
    let served = shown.served plain in
    let same : k.envelope ≡ shown.envelope = same_Some _ _ (sym k.received.envelope ∙ shown.there) in
    let says : reply ≡ shown.envelope.body = k.body ∙ ap (λ (e : Envelope). e.body) same in
    record {
      world = served.world;
      idle = served.idle;
      owed = ap (λ (b : List ℕ). Some b) says ∙ served.owed;
      after = ap (λ (n : NodeParts). n.state.machine) k.taken ∙ served.after;
    }
