-- An exchange with a server under a lock.
-- Serves: ask, bring_back, call, Shared::carry.
use Rattle.std.proofs.Common.{◌≡◌, ◌⊎◌, inl, inr, ℕ, Bool, true, false, List, Result, Ok, Err, Option}
use Rattle.std.proofs.Common.{Some, []}
use Rattle.std.proofs.Common.{None, refl, sym, ap, subst, ◌∙◌}
use Rattle.std.proofs.lemmas.Option.{same_Some}
use Rattle.std.specs.Prelude.{IfErr, IfOk, OnOk}
use Rattle.std.specs.Option.{option_map}
use Rattle.authenticator.specs.declared.member.Kind.TheVariants as kinds
use Rattle.envelopes.specs.declared.envelope.Envelope.{Envelope}
use Rattle.envelopes.specs.declared.acknowledgement.Ack.{Ack}
use Rattle.commitment.specs.Senders.LookUps.{ack_at, envelope_at}
use Rattle.commitment.specs.Senders.Sender.{IsSender, SenderParts}
use Rattle.commitment.specs.Receiver.{Finds}
use Rattle.nfs_items.specs.Timeval.{Timeval}
use Rattle.gateway.specs.declared.links.fault.LinkFault.{LinkFault}
use Rattle.gateway.specs.declared.links.fault.LinkFault.TheVariants.{KeysUsedUp, NoMemory, Failed}
use Rattle.node_logs.specs.Steps.Nodes.{NodeParts, next_number, receiver_of, sender_of}
use Rattle.node_logs.specs.Nodes.{LacksNumbers}
use Rattle.node_logs.specs.Steps.Serving.{entries_for}
use Rattle.node_logs.specs.Steps.Logging.{with_send}
use Rattle.node_logs.specs.AckTaking.{with_ack}
use Rattle.node_logs.specs.declared.outcome.Receipt.{Receipt}
use Rattle.nodes.specs.Delivery.{MayTakeAck}
use Rattle.nodes.specs.Exchanges.Exchanges.{IsAsked, IsHeard, IsJoined, IsOwed, IsServed, having_called}
use Rattle.nodes.specs.Exchanges.Laws.{IsAccepted}
use Rattle.nodes.specs.Faults.{Because}
use Rattle.nodes.specs.Shareds.{HasNotStrayed, IsAckRefused, IsCalled, IsExchanged, IsUnderLock, SharedParts}
use Rattle.nodes.specs.Shareds.{StopsCalling, StopsExchange, asked, heard, received, sent, unheard, unsent}
use Rattle.nodes.specs.Sides.{HasAnswered, HasReceived, IsAskedOf, IsEnvelopeText, IsReceivedAs, IsReplyAt}
use Rattle.nodes.specs.Sides.{IsReplyText}
use Rattle.nodes.specs.Sides.{IsReturnedAs, IsSentAs, IsTextOfAck, StopsAnswering, StopsReceiving}
use Rattle.nodes.specs.Sides.{StopsReturning}
use Rattle.nodes.specs.Sides.{StopsSending}
use Rattle.nodes.proofs.OfExchanges.Answered.{reply_due}
use Rattle.nodes.proofs.OfExchanges.Called.{call_acknowledged, call_reaches}
use Rattle.nodes.proofs.OfExchanges.Reached.{ack_accepted, found}
use Rattle.nodes.proofs.OfExchanges.Shown.{envelope_shown}
use Rattle.authenticator.specs.Numbers.{number_in}
use Rattle.nodes.proofs.OfSides.{as_written, because, weaker}

-- ---- texts

-- What holds of an acknowledgement whose text was handed over holds of one whose text was written.
pub handed : {F : Ack → Type 0} (bytes text : List ℕ) → bytes ≡ text → ((a : Ack) → IsTextOfAck a bytes → F a)
    → (a : Ack)
    → IsTextOfAck a text → F a
handed bytes text same f a h = f a (subst (IsTextOfAck a) (sym same) h)

-- ---- the call

-- The client sent nothing, or out of memory for the text.
pub not_begun : (c : NodeParts) (to : ℕ) (time : Timeval) (body : List ℕ) (fault : LinkFault) (c1 : NodeParts)
    → StopsSending c to body fault c1 → StopsCalling c to time body fault c1
not_begun c to time body fault c1 (inl x) = unsent x.0 x.1
not_begun c to time body fault c1 (inr x) = sent x.0 x.1 x.2 x.3

-- what the server heard of a client that sent
pub record IsHeardOf (c s : NodeParts) (to : ℕ) (time : Timeval) (body : List ℕ) (c1 s1 : NodeParts)
    (r : Receipt)
    : Type 0 where
  -- it has the number that the client sent to
  pub number : s.node ≡ to
  -- the client sent to it
  pub is : c1 ≡ having_called c s body
  -- it received the call
  pub heard : IsHeard c s time body r s1

-- The word of the envelope stands for the number of the SEND.
sent_stands : (c : NodeParts) (to : ℕ) (body text : List ℕ) (c1 : NodeParts)
    (out : IsSentAs c to body text c1) → number_in c.log_version out.envelope.seq ≡ next_number c
sent_stands c to body text c1 out =
    let x = envelope_shown (sender_of (with_send c to body)) c.entries [] c.pending to body
    (subst (λ (n : NodeParts). IsSender (sender_of n)) out.sends out.sender) refl in
    let shown : envelope_at (sender_of (with_send c to body)) (next_number c) ≡ Some out.envelope =
    ap (λ (n : NodeParts). envelope_at (sender_of n) (next_number c)) (sym out.sends) ∙ out.shown in
    let same : x.0 ≡ out.envelope = same_Some _ _ (sym x.1.there ∙ shown) in
    ap (λ (e : Envelope). number_in c.log_version e.seq) (sym same) ∙ x.1.stands

-- A server that received what the client sent is the one that it called.
pub heard_of : (c s : NodeParts) (to : ℕ) (time : Timeval) (body text : List ℕ) (c1 s1 : NodeParts)
    (r : Receipt)
    → (out : IsSentAs c to body text c1) → HasReceived s time out.envelope r s1
    → IsHeardOf c s to time body c1 s1 r
heard_of c s to time body text c1 s1 r out has =
    let number : s.node ≡ to = sym has.receiver ∙ out.receiver in
    let is : c1 ≡ having_called c s body = out.sends ∙ ap (λ (k : ℕ). with_send c k body) (sym number) in
    record {
      number = number;
      is = is;
      heard = record {
        left = out.left;
        numbers = out.numbers;
        envelope = out.envelope;
        call = record {
          shown = ap (λ (n : NodeParts). envelope_at (sender_of n) (next_number c)) (sym is)
              ∙ out.shown;
          sender = out.from;
          receiver = has.receiver;
          numbered = out.numbered;
          stands = sent_stands c to body text c1 out;
          says = out.says;
        };
        server_left = has.left;
        server_numbers = subst (λ (b : List ℕ). ¬ LacksNumbers (entries_for b) s) out.says has.numbers;
        receives = has.receives;
      };
    }

-- Where the two are joined, the server finds what the client sent.
sent_found : (c s : NodeParts) (to : ℕ) (body text : List ℕ) (c1 : NodeParts)
    (out : IsSentAs c to body text c1)
    → s.node ≡ to → IsJoined c s → Finds (receiver_of s) text out.envelope None
sent_found c s to body text c1 out number joined =
    let is : c1 ≡ having_called c s body = out.sends ∙ ap (λ (k : ℕ). with_send c k body) (sym number) in
    let sender = subst (λ (n : NodeParts). IsSender (sender_of n)) is out.sender in
    let x = call_reaches c s body joined sender in
    let shown : envelope_at (sender_of (having_called c s body)) (next_number c) ≡ Some out.envelope =
    ap (λ (n : NodeParts). envelope_at (sender_of n) (next_number c)) (sym is) ∙ out.shown in
    let same : x.0 ≡ out.envelope = same_Some _ _ (sym x.1.0.shown ∙ shown) in
    subst (λ (e : Envelope). Finds (receiver_of s) text e None) same
    (found (having_called c s body) s kinds.Client (next_number c) x.0 text sender x.1.1
    (subst (λ (e : Envelope). IsEnvelopeText e text) (sym same) out.written))

-- The server didn't receive it, or was out of memory for what it shows.
pub not_answered_under : (c s : NodeParts) (to : ℕ) (time : Timeval) (body text : List ℕ) (fault : LinkFault)
    (c1 s1 : NodeParts) (out : IsSentAs c to body text c1) → HasNotStrayed s → HasNotStrayed s1
    → StopsAnswering s time out.envelope text fault s1 → StopsCalling c to time body fault c1
not_answered_under c s to time body text fault c1 s1 out straight stays (inl x) =
    unheard s straight out.left out.numbers (because fault (λ lacks. lacks) by x.0) out.sends
  where
    by : (Finds (receiver_of s) text out.envelope None → ⊥) ⊎ LacksNumbers (entries_for out.envelope.body) s
        → ((s.node ≡ to) × IsJoined c s → ⊥) ⊎ LacksNumbers (entries_for body) s
    by (inl refuses) = inl (λ joined. refuses (sent_found c s to body text c1 out joined.0 joined.1))
    by (inr lacks) = inr (subst (λ (b : List ℕ). LacksNumbers (entries_for b) s) out.says lacks)
not_answered_under c s to time body text fault c1 s1 out straight stays (inr x) =
    let h = heard_of c s to time body text c1 s1 x.0 out x.1.0 in
    heard s s1 x.0 (record { called = h.number; straight = straight; stays = stays }) h.heard
    (weaker ⊥ ((IsJoined c s → ⊥) ⊎ LacksNumbers 1 c1) fault x.1.1) h.is

-- Where the two are joined, the client accepts the acknowledgement.
accepts_ack : (c s : NodeParts) (to : ℕ) (time : Timeval) (body : List ℕ) (c1 s1 : NodeParts) (r : Receipt)
    (a : Ack)
    (h : IsHeardOf c s to time body c1 s1 r) → IsSender (sender_of s1) → ack_at (sender_of s1) r.ack ≡ Some a
    → IsJoined c s → IsAccepted c1 a
accepts_ack c s to time body c1 s1 r a h is made joined =
    let x = call_acknowledged c s s1 body h.heard.envelope time r joined h.heard.call h.heard.receives is in
    let same : x.0 ≡ a = same_Some _ _ (sym x.1.ack ∙ made) in
    subst (λ (n : NodeParts). IsAccepted n a) (sym h.is)
    (subst (λ (k : Ack). IsAccepted (having_called c s body) k) same
    (ack_accepted s1 (having_called c s body) kinds.Server r.ack x.0 is x.1))

-- The client didn't take the acknowledgement, or was out of memory for what the server shows.
pub not_asked_under : (c s : NodeParts) (to : ℕ) (time : Timeval) (body text : List ℕ)
    (ack : Ack) (envelope : Option Envelope) (fault : LinkFault) (c1 s1 c2 : NodeParts)
    (out : IsSentAs c to body text c1)
    → HasNotStrayed s → HasNotStrayed s1 → HasAnswered s time out.envelope ack envelope s1
    → MayTakeAck c1 ack (Err fault) c2 → StopsCalling c to time body fault c2
not_asked_under c s to time body text ack envelope fault c1 s1 c2 out straight stays answer told =
    by fault told
  where
    h : IsHeardOf c s to time body c1 s1 answer.receipt
    h = heard_of c s to time body text c1 s1 answer.receipt out answer.received

    lock : IsUnderLock to s s1
    lock = record { called = h.number; straight = straight; stays = stays }

    by : (f : LinkFault) → MayTakeAck c1 ack (Err f) c2 → StopsCalling c to time body f c2
    by KeysUsedUp may = absurd may
    by NoMemory may = heard s s1 answer.receipt lock h.heard tt (may ∙ h.is)
    by Failed (same, inl refuses) =
        heard s s1 answer.receipt lock h.heard
        (inl (λ joined. refuses (accepts_ack c s to time body c1 s1 answer.receipt ack h answer.sender
        answer.shown.made joined))) (same ∙ h.is)
    by Failed (same, inr lacks) =
        heard s s1 answer.receipt lock h.heard
        (inr (subst (λ (n : NodeParts). LacksNumbers 1 n) (sym same) lacks)) (same ∙ h.is)

-- The client took it.
pub asked_under : (c s : NodeParts) (to : ℕ) (time : Timeval) (body text : List ℕ) (ack : Ack)
    (envelope : Option Envelope) (reply : Option (List ℕ)) (bytes : List ℕ) (c1 s1 c2 : NodeParts)
    (out : IsSentAs c to body text c1) → HasNotStrayed s → HasNotStrayed s1
    → HasAnswered s time out.envelope ack envelope s1
    → IsServed s time out.envelope.body (option_map (λ (f : Envelope). f.body) envelope) s1
    → IsReplyText envelope reply bytes
    → MayTakeAck c1 ack (Ok tt) c2 → IsAskedOf c to time body reply bytes c2
asked_under c s to time body text ack envelope reply bytes c1 s1 c2 out straight stays answer served written taken =
    let h = heard_of c s to time body text c1 s1 answer.receipt out answer.received in
    record {
      server = s;
      left = s1;
      lock = record { called = h.number; straight = straight; stays = stays };
      receipt = answer.receipt;
      asked = record {
        heard = h.heard;
        ack = ack;
        made = answer.shown.made;
        taken = taken ∙ ap (λ (n : NodeParts). with_ack n ack) h.is;
      };
      sender = answer.sender;
      envelope = envelope;
      shown = answer.shown.at;
      written = written;
      served = subst (λ (b : List ℕ). IsServed s time b reply s1) out.says
          (as_written s s1 time out.envelope.body envelope reply bytes written served);
    }

-- What came of writing what the server shows, and of taking its acknowledgement: the call was taken.
pub asked_where_heard : {X : Type 0} (items : X → List ℕ) (result : Result (Option X) LinkFault)
    (c s : NodeParts) (to : ℕ) (time : Timeval) (body text : List ℕ) (ack : Ack) (envelope : Option Envelope)
    (bytes : List ℕ) (c1 s1 c2 : NodeParts) (out : IsSentAs c to body text c1)
    → HasNotStrayed s → HasNotStrayed s1 → HasAnswered s time out.envelope ack envelope s1
    → IsServed s time out.envelope.body (option_map (λ (f : Envelope). f.body) envelope) s1
    → IfOk result (λ r. IsReplyText envelope (option_map items r) bytes)
    → OnOk result (MayTakeAck c1 ack (Ok tt) c2)
    → IfOk result (λ r. IsAskedOf c to time body (option_map items r) bytes c2)
asked_where_heard items (Ok r) c s to time body text ack e bytes c1 s1 c2 out straight stays has served w taken =
    asked_under c s to time body text ack e (option_map items r) bytes c1 s1 c2 out straight stays has served w
    taken
asked_where_heard items (Err f) c s to time body text ack e bytes c1 s1 c2 out straight stays has served w taken =
    tt

-- Or it wasn't.
pub not_asked_where_heard : {X : Type 0} (result : Result X LinkFault)
    (c s : NodeParts) (to : ℕ) (time : Timeval) (body text : List ℕ) (ack : Ack) (envelope : Option Envelope)
    (c1 s1 c2 : NodeParts) (out : IsSentAs c to body text c1)
    → HasNotStrayed s → HasNotStrayed s1 → HasAnswered s time out.envelope ack envelope s1
    → IfErr result (λ f. MayTakeAck c1 ack (Err f) c2)
    → IfErr result (λ f. StopsCalling c to time body f c2)
not_asked_where_heard (Ok x) c s to time body text ack e c1 s1 c2 out straight stays has told = tt
not_asked_where_heard (Err f) c s to time body text ack e c1 s1 c2 out straight stays has told =
    not_asked_under c s to time body text ack e f c1 s1 c2 out straight stays has told

-- ---- the reply

-- The client didn't receive it, or was out of memory for the text of its acknowledgement.
pub not_returned : (c : NodeParts) (e : Envelope) (bytes : List ℕ) (fault : LinkFault) (c1 : NodeParts)
    → StopsReceiving c e bytes fault c1 → StopsReturning c e bytes fault c1
not_returned c e bytes fault c1 (inl x) = inl x
not_returned c e bytes fault c1 (inr x) =
    inr (x.0, x.1, x.2, weaker ⊥ (IsAckRefused c1) fault x.3)

-- It received it, and the server took the acknowledgement or didn't.
pub returned_or_stops : (c : NodeParts) (e : Envelope) (bytes text : List ℕ) (c1 s s1 : NodeParts)
    (result : Result (Unit {0}) LinkFault) → IsReceivedAs c e text c1 → HasNotStrayed s → HasNotStrayed s1
    → ((a : Ack) → IsTextOfAck a text → MayTakeAck s a result s1)
    → OnOk result (IsReturnedAs c e c1) × IfErr result (λ f. StopsReturning c e bytes f c1)
returned_or_stops c e bytes text c1 s s1 (Ok x) got straight stays told = (
  record {
    left = got.left;
    numbers = got.numbers;
    received = got.received;
    acknowledged = record {
      ack = got.ack;
      made = got.made;
      server = s;
      straight = straight;
      left = s1;
      stays = stays;
      taken = told got.ack got.written;
    };
  },
  tt,
)
returned_or_stops c e bytes text c1 s s1 (Err fault) got straight stays told =
    (tt, inr (got.left, got.numbers, got.received, by fault (told got.ack got.written)))
  where
    by : (f : LinkFault) → MayTakeAck s got.ack (Err f) s1 → Because ⊥ (IsAckRefused c1) f
    by KeysUsedUp may = may
    by NoMemory may = tt
    by Failed may =
        record { ack = got.ack; made = got.made; server = s; straight = straight; refuses = may.1 }

-- ---- both

-- What holds of a reply's items holds of none, or of one.
pub mapped_none : {X : Type 0} (items : X → List ℕ) (o : Option X) (F : Option (List ℕ) → Type 0) → o ≡ None
    → F (option_map items o) → F None
mapped_none {X = X} items o F same h = subst (λ (p : Option X). F (option_map items p)) same h

-- what holds of the items of an option that is there holds of its mapped value
pub mapped_some : {X : Type 0} (items : X → List ℕ) (o : Option X) (v : X) (F : Option (List ℕ) → Type 0)
    → o ≡ Some v
    → F (option_map items o) → F (Some (items v))
mapped_some {X = X} items o v F same h = subst (λ (p : Option X). F (option_map items p)) same h

-- a reply that is owed, as a server shows it
record IsReply (s : SenderParts) (o : Option ℕ) (reply bytes : List ℕ) : Type 0 where
  -- its number
  number : ℕ
  -- the receipt names it
  named : o ≡ Some number
  -- its envelope
  envelope : Envelope
  -- the server shows it at the number
  there : envelope_at s number ≡ Some envelope
  -- these bytes are its text
  written : IsEnvelopeText envelope bytes
  -- the reply is its body
  says : reply ≡ envelope.body

some_reply : (s : SenderParts) (o : Option ℕ) (e : Option Envelope) (reply bytes : List ℕ) → IsReplyAt s o e
    → IsReplyText e (Some reply) bytes → IsReply s o reply bytes
some_reply s None None reply bytes at text = absurd text
some_reply s None (Some e) reply bytes at text = absurd at
some_reply s (Some number) None reply bytes at text = absurd text
some_reply s (Some number) (Some e) reply bytes at text = record {
  number = number;
  named = refl;
  envelope = e;
  there = at;
  written = text.0;
  says = text.1;
}

no_reply : (s : SenderParts) (o : Option ℕ) (e : Option Envelope) (bytes : List ℕ) → IsReplyAt s o e
    → IsReplyText e None bytes → o ≡ None
no_reply s None e bytes at text = refl
no_reply s (Some number) None bytes at text = absurd at
no_reply s (Some number) (Some e) bytes at text = absurd text

-- A call that owes no reply is whole.
pub called_without : (c : NodeParts) (to : ℕ) (time : Timeval) (body bytes : List ℕ) (c1 : NodeParts)
    → IsAskedOf c to time body None bytes c1 → IsCalled c to time body None c1
called_without c to time body bytes c1 h = record {
  server = h.server;
  left = h.left;
  lock = h.lock;
  carried = (
    h.receipt,
    (h.asked, no_reply (sender_of h.left) h.receipt.reply h.envelope bytes h.shown h.written),
  );
  served = h.served;
}

-- A call whose reply came back is whole.
pub called_with : (c : NodeParts) (to : ℕ) (time : Timeval) (body reply bytes : List ℕ) (c1 c2 : NodeParts)
    → IsAskedOf c to time body (Some reply) bytes c1
    → ((e : Envelope) → IsEnvelopeText e bytes → IsReturnedAs c1 e c2)
    → IsCalled c to time body (Some reply) c2
called_with c to time body reply bytes c1 c2 h returns =
    let x = some_reply (sender_of h.left) h.receipt.reply h.envelope reply bytes h.shown h.written in
    let back = returns x.envelope x.written in
    record {
      server = h.server;
      left = h.left;
      lock = h.lock;
      carried = (
        x.number,
        (
          c1,
          (
            record { receipt = h.receipt; asked = h.asked; owed = x.named },
            record {
              envelope = x.envelope;
              received = record {
                envelope = x.there;
                left = back.left;
                numbers = back.numbers;
                received = back.received;
              };
              body = x.says;
              acknowledged = back.acknowledged;
            },
          ),
        ),
      );
      served = h.served;
    }

-- Where the two are joined, the client finds the reply.
reply_found : (c s c1 s1 : NodeParts) (time : Timeval) (body bytes : List ℕ) (r : Receipt) (number : ℕ)
    (e : Envelope)
    → IsAsked c s time body r c1 s1 → IsSender (sender_of s1) → r.reply ≡ Some number
    → envelope_at (sender_of s1) number ≡ Some e → IsEnvelopeText e bytes → IsJoined c s
    → Finds (receiver_of c1) bytes e None
reply_found c s c1 s1 time body bytes r number e asks is owed there text joined =
    let due = reply_due c s c1 s1 time body r number joined asks is owed in
    let same : due.ready.envelope ≡ e = same_Some _ _ (sym due.ready.reaches.envelope ∙ there) in
    subst (λ (x : Envelope). Finds (receiver_of c1) bytes x None) same
    (found s1 c1 kinds.Server number due.ready.envelope bytes is due.ready.reaches
    (subst (λ (x : Envelope). IsEnvelopeText x bytes) (sym same) text))

-- A call whose reply didn't come back whole stops there.
pub not_called_with : (c : NodeParts) (to : ℕ) (time : Timeval) (body reply bytes : List ℕ)
    (fault : LinkFault)
    (c1 c2 : NodeParts) → IsAskedOf c to time body (Some reply) bytes c1
    → ((e : Envelope) → IsEnvelopeText e bytes → StopsReturning c1 e bytes fault c2)
    → StopsCalling c to time body fault c2
not_called_with c to time body reply bytes fault c1 c2 h stops = by (stops x.envelope x.written)
  where
    x : IsReply (sender_of h.left) h.receipt.reply reply bytes
    x = some_reply (sender_of h.left) h.receipt.reply h.envelope reply bytes h.shown h.written

    owed : IsOwed c h.server time body x.number c1 h.left
    owed = record { receipt = h.receipt; asked = h.asked; owed = x.named }

    why : (Finds (receiver_of c1) bytes x.envelope None → ⊥) ⊎ LacksNumbers 1 c1
        → (IsJoined c h.server → ⊥) ⊎ LacksNumbers 1 c1
    why (inl refuses) = inl (λ joined. refuses (reply_found c h.server c1 h.left time body bytes h.receipt
        x.number x.envelope h.asked h.sender x.named x.there x.written joined))
    why (inr lacks) = inr lacks

    by : StopsReturning c1 x.envelope bytes fault c2 → StopsCalling c to time body fault c2
    by (inl y) =
        subst (λ (n : NodeParts). StopsCalling c to time body fault n) (sym y.1)
        (asked h.server h.left x.number h.lock owed (because fault (λ lacks. lacks) why y.0))
    by (inr y) =
        received h.server h.left c1 x.number x.envelope h.lock owed
        (record { envelope = x.there; left = y.0; numbers = y.1; received = y.2 }) y.3

-- ---- the link

-- with a reply, or none
pub exchanged : (d : SharedParts) (time : Timeval) (body : List ℕ) (reply : Option (List ℕ)) (c' : NodeParts)
    (failed : Bool) → d.failed ≡ false → failed ≡ false → IsCalled d.client d.to time body reply c'
    → IsExchanged d time body reply (record { client = c'; to = d.to; failed = failed })
exchanged d time body reply c' failed none still called =
    record { before = none; after = still; same = refl; called = called }

-- with a fault
pub stopped : (d : SharedParts) (time : Timeval) (body : List ℕ) (fault : LinkFault) (c' : NodeParts)
    → d.failed ≡ false → StopsCalling d.client d.to time body fault c'
    → StopsExchange d time body fault (record { client = c'; to = d.to; failed = true })
stopped d time body fault c' none stops =
    inl (record { before = none; after = refl; same = refl; stops = stops })
