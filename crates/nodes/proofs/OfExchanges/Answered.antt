-- A reply reaches the client, and its acknowledgement the server; it is the one owed, and both stay joined.
-- Serves: laws.exchanges_serve, and nodes: exchange.exchange.
use Rattle.std.proofs.Common.{◌≡◌, ℕ, ◌+◌, ◌<◌, ◌≤◌, Bool, cond, List, [], ◌∷◌, ◌++◌, Option, Some}
use Rattle.std.proofs.Common.{None, refl, sym, ap, subst, ◌∙◌, arith, append_assoc}
use Rattle.std.proofs.lemmas.Option.{same_Some}
use Rattle.std.specs.Prelude.{IsSome, IsSomeAnd}
use Rattle.std.specs.FinMap as finite
use Rattle.sha2.specs.Sha256.{sha256}
use Rattle.authenticator.specs.declared.member.Kind.TheVariants as kinds
use Rattle.authenticator.specs.declared.member.LogVersion.{LogVersion}
use Rattle.authenticator.specs.declared.member.Member.{Member}
use Rattle.authenticator.specs.Numbers.{number_in}
use Rattle.secure_log.specs.LogEntries.Chain.{Logged, span}
use Rattle.secure_log.proofs.OfLogEntries.Pairs.{span-append, span-snoc}
use Rattle.secure_log.specs.LogEntries.Messages.{message_hash}
use Rattle.secure_log.specs.declared.log_entries.entry.Entry.{Entry}
use Rattle.secure_log.specs.declared.log_entries.entry.Entry.TheVariants.{Send, Recv, Clock}
use Rattle.envelopes.specs.declared.envelope.Envelope.{Envelope}
use Rattle.envelopes.specs.declared.acknowledgement.Ack.{Ack}
use Rattle.commitment.specs.Senders.LookUps.{FitsEnvelope, ack_at, envelope_at}
use Rattle.commitment.specs.Senders.Sender.{IsSender}
use Rattle.nfs_items.specs.Timeval.{Timeval, later}
use Rattle.server_spec.specs.World.{World, at_time}
use Rattle.server_spec.specs.Replies.{reply_owed, world_after}
use Rattle.state_spec.specs.State.{Idle, Machine, Server, clock_in}
use Rattle.node_logs.specs.replay_spec.LogLaws.HonestServers.{heard_entries, next_logged}
use Rattle.node_logs.specs.Steps.Nodes.{NodeParts, next_number, sender_of}
use Rattle.node_logs.specs.Receiving.{ReceivesEnvelope, lies_still, receipt_from}
use Rattle.node_logs.specs.Steps.Serving.{reading_at, reply_told, state_heard, with_answer}
use Rattle.node_logs.specs.Steps.Logging.{with_receipt}
use Rattle.node_logs.specs.AckTaking.{ack_entry}
use Rattle.node_logs.specs.declared.outcome.Receipt.{Receipt}
use Rattle.node_logs.proofs.OfSteps.Served.{later_late, machine_stays}
use Rattle.nodes.specs.Exchanges.Members.{IsListed}
use Rattle.nodes.specs.Exchanges.Reaching.{AckReaches, IsReplyReady, ReceivesUpTo}
use Rattle.nodes.specs.Exchanges.Exchanges.{IsAsked, IsJoined, IsReplied, IsServed}
use Rattle.nodes.proofs.OfExchanges.Shown.{ack_shown, envelope_shown}
use Rattle.nodes.proofs.OfExchanges.Fresh.{not_received, recv_up_to, up_to_both, up_to_more}
use Rattle.nodes.proofs.OfExchanges.Called.{listed_stays, plainly, sent_there}

-- ---- the acknowledgement of a reply

-- The acknowledgement of a reply reaches the server.
pub reply_acknowledged : (c s c1 : NodeParts) (number receipt : ℕ) (h : IsReplyReady c s number)
    → c1 ≡ with_receipt c h.envelope → IsSender (sender_of c1) → receipt ≡ span c1.entries
    → (a : Ack) × AckReaches c1 kinds.Client receipt s a
reply_acknowledged c s c1 number receipt h same is last =
    let e = h.envelope in
    let recv : Logged = record { skipped = c.pending; entry = Recv e.from e.seq e.prev e.body e.signature } in
    let log : c1.entries ≡ c.entries ++ recv ∷ [] = ap (λ (x : NodeParts). x.entries) same in
    let node : c1.node ≡ c.node = ap (λ (x : NodeParts). x.node) same in
    let place : receipt ≡ next_number c = last ∙ ap span log ∙ span-snoc c.entries recv in
    let x = ack_shown (sender_of c1) c.entries [] c.pending e.from e.seq e.prev e.body e.signature is log in
    let a = x.0 in
    let k = x.1 in
    let at : number_in s.log_version a.seq ≡ number =
    ap (number_in s.log_version) k.numbered ∙ h.numbered in
    let fits : FitsEnvelope a e = record {
      receiver = k.signer ∙ node ∙ sym h.reaches.receiver;
      sender = k.sender;
      number = k.numbered;
      prev = k.before;
      body = k.says;
      signature = k.signed;
    } in (
      a,
      record {
        ack = ap (ack_at (sender_of c1)) place ∙ k.there;
        fits = subst (λ (o : Option Envelope). IsSomeAnd o (FitsEnvelope a))
            (sym (ap (envelope_at (sender_of s)) at ∙ h.reaches.envelope)) fits;
        listed = listed_stays s.roster kinds.Client c c1 node (ap (λ (x : NodeParts). x.log_version) same)
            (ap (λ (x : NodeParts). x.signer.master) same)
            (ap (λ (x : NodeParts). x.signer.height) same) h.client;
        awaited = subst (λ (k : ℕ). IsSome (finite.get s.state.sends k)) (sym k.numbered) h.awaited;
      },
    )

-- ---- what the server did with a call

-- A time that is no earlier than the last reading is the time that a server answers at.
same_time : (w : World) (time : Timeval) → at_time w (later time w.clock) ≡ at_time w time
same_time w time =
    let once : later (later time w.clock) w.clock ≡ later time w.clock =
    ap (λ (b : Bool). cond b w.clock (later time w.clock)) (later_late time w.clock) in
    ap (λ (t : Timeval). record w { clock = t }) once

same_reply : (w : World) (time : Timeval) (body : List ℕ)
    → reply_owed w (later time w.clock) body ≡ reply_owed w time body
unfolding reply_owed
same_reply w time body = rw (same_time w time) refl

same_world : (w : World) (time : Timeval) (body : List ℕ)
    → world_after w (later time w.clock) body ≡ world_after w time body
unfolding world_after
same_world w time body = rw (same_time w time) refl

-- It answered what is owed.
pub served_by : (s t : NodeParts) (time : Timeval) (body : List ℕ) (e : Envelope) (r : Receipt)
    → e.body ≡ body → (h : ReceivesEnvelope s time e r t)
    → IsServed s time body (reply_owed h.world (reading_at s time) e.body) t
served_by s t time body e r says h =
    let w = h.world in
    let reading : reading_at s time ≡ later time w.clock =
    ap (λ (m : Machine). later time (clock_in m)) h.idle in
    record {
      world = w;
      idle = h.idle;
      owed =
          ap (λ (x : Timeval). reply_owed w x e.body) reading ∙ same_reply w time e.body
          ∙ ap (reply_owed w time) says;
      after =
          ap (λ (x : NodeParts). x.state.machine) h.served
          ∙ machine_stays
          (state_heard s.state w e (reading_at s time)) _ _ e.from
          (reply_told s.lies (reply_owed w (reading_at s time) e.body))
          ∙ ap (λ (x : Timeval). Server (world_after w x e.body) Idle) reading
          ∙ ap (λ (x : World). Server x Idle) (same_world w time e.body ∙ ap (world_after w time) says);
    }

-- ---- after a call

-- the client's log by the server's numbers
client_up_to : (c s c1 t : NodeParts) (time : Timeval) (body : List ℕ) (r : Receipt) (v : LogVersion)
    (from limit : ℕ)
    → IsAsked c s time body r c1 t → ReceivesUpTo v from limit c.entries → ReceivesUpTo v from limit c1.entries
client_up_to c s c1 t time body r v from limit asked few =
    subst (λ (n : NodeParts). ReceivesUpTo v from limit n.entries) (sym asked.taken)
    (up_to_both v from limit (c.entries ++ record { skipped = c.pending; entry = Send s.node body } ∷ []) _
    (up_to_both v from limit c.entries _ few (omega arith, tt)) (omega arith, tt))

server_up_to : (v : LogVersion) (from limit skipped : ℕ) (es : List Logged) (e : Envelope) (time : Timeval)
    (o : Option (List ℕ)) → number_in v e.seq ≤ limit
    → ReceivesUpTo v from limit es
    → ReceivesUpTo v from limit (es ++ heard_entries skipped e.from e.seq e.prev e.body e.signature time o)
server_up_to v from limit skipped es e time None h few =
    up_to_both v from limit es _ few
    (recv_up_to v from limit e.from e.seq e.prev e.body e.signature h, (omega arith, tt))
server_up_to v from limit skipped es e time (Some reply) h few =
    up_to_both v from limit es _ few
    (recv_up_to v from limit e.from e.seq e.prev e.body e.signature h, (omega arith, (omega arith, tt)))

client_long : (c s c1 t : NodeParts) (time : Timeval) (body : List ℕ) (r : Receipt)
    → IsAsked c s time body r c1 t
    → span c1.entries ≡ next_number c + 1
client_long c s c1 t time body r asked =
    let sent : Logged = record { skipped = c.pending; entry = Send s.node body } in
    let log = ap (λ (n : NodeParts). span n.entries) asked.taken in
    omega (
      arith,
      log,
      span-snoc (c.entries ++ sent ∷ []) (next_logged (ack_entry asked.ack)),
      span-snoc c.entries sent,
    )

server_long : (skipped : ℕ) (es : List Logged) (e : Envelope) (time : Timeval) (o : Option (List ℕ))
    → span es ≤ span (es ++ heard_entries skipped e.from e.seq e.prev e.body e.signature time o)
server_long skipped es e time o =
    let more = span-append es (heard_entries skipped e.from e.seq e.prev e.body e.signature time o) in
    omega (arith, more)

-- Both stay joined.
pub asked_joined : (c s c1 t : NodeParts) (time : Timeval) (body : List ℕ) (r : Receipt) → IsJoined c s
    → IsAsked c s time body r c1 t → IsJoined c1 t
asked_joined c s c1 t time body r joined asked =
    let h = asked.heard.receives in
    let e = asked.heard.envelope in
    let owed = reply_owed h.world (reading_at s time) e.body in
    let o = reply_told s.lies owed in
    let client : c1.node ≡ c.node = ap (λ (n : NodeParts). n.node) asked.taken in
    let server : t.node ≡ s.node = ap (λ (n : NodeParts). n.node) h.served in
    let long = client_long c s c1 t time body r asked in
    let stands = asked.heard.call.stands in
    let longer : span s.entries ≤ span t.entries =
    subst (λ (n : NodeParts). span s.entries ≤ span n.entries) (sym h.served)
    (server_long s.pending s.entries e (reading_at s time) o) in
    record {
      two = λ same. joined.two (sym client ∙ same ∙ server);
      client = subst (λ (ms : List Member). IsListed ms kinds.Client c1)
          (sym (ap (λ (n : NodeParts). n.roster) h.served))
          (listed_stays s.roster kinds.Client c c1 client
          (ap (λ (n : NodeParts). n.log_version) asked.taken)
          (ap (λ (n : NodeParts). n.signer.master) asked.taken)
          (ap (λ (n : NodeParts). n.signer.height) asked.taken) joined.client);
      server = subst (λ (ms : List Member). IsListed ms kinds.Server t)
          (sym (ap (λ (n : NodeParts). n.roster) asked.taken))
          (listed_stays c.roster kinds.Server s t server (ap (λ (n : NodeParts). n.log_version) h.served)
          (ap (λ (n : NodeParts). n.signer.master) h.served)
          (ap (λ (n : NodeParts). n.signer.height) h.served) joined.server);
      heard = subst (λ (n : NodeParts). ReceivesUpTo n.log_version n.node (span c1.entries) t.entries)
          (sym asked.taken)
          (subst (λ (n : NodeParts). ReceivesUpTo c.log_version c.node (span c1.entries) n.entries)
          (sym h.served)
          (server_up_to c.log_version c.node (span c1.entries) s.pending s.entries e (reading_at s time) o
          (omega (arith, long, stands))
          (up_to_more c.log_version c.node (span c.entries) (span c1.entries) s.entries
          (omega (arith, long)) joined.heard)));
      received = subst (λ (n : NodeParts). ReceivesUpTo n.log_version n.node (span t.entries) c1.entries)
          (sym h.served)
          (client_up_to c s c1 t time body r s.log_version s.node (span t.entries) asked
          (up_to_more s.log_version s.node (span s.entries) (span t.entries) c.entries longer
          joined.received));
      plain = ap (λ (n : NodeParts). n.lies) h.served ∙ ap (λ (b : Bool). lies_still b owed) joined.plain;
    }

-- ---- the reply that the call owes

-- The server owes its reply at a number, and it is ready.
pub record IsDue (c1 s t : NodeParts) (time : Timeval) (body : List ℕ) (number : ℕ) : Type 0 where
  -- the reply at that number reaches the client, and awaits its acknowledgement
  pub ready : IsReplyReady c1 t number
  -- it is the one owed to the body
  pub served : IsServed s time body (Some ready.envelope.body) t

-- the number after two entries more, of which the first skips these
pub three : (skipped : ℕ) (es : List Logged) (a b : Entry)
    → span (es ++ record { skipped = skipped; entry = a } ∷ next_logged b ∷ []) + 1 + 0
    ≡ span es + 1 + skipped + 2
three skipped es a b =
    omega (arith, span-append es (record { skipped = skipped; entry = a } ∷ next_logged b ∷ []))

-- what is ready of a reply that the server logged
reply_ready : (c s c1 t : NodeParts) (time : Timeval) (body : List ℕ) (r : Receipt) (number : ℕ)
    (reply : List ℕ)
    → IsJoined c s → (asked : IsAsked c s time body r c1 t) → IsSender (sender_of t)
    → number ≡ next_number s + 2
    → t ≡ with_answer s asked.heard.receives.world asked.heard.envelope (reading_at s time) (Some reply)
    → (ready : IsReplyReady c1 t number) × (ready.envelope.body ≡ reply)
reply_ready c s c1 t time body r number reply joined asked is at heard_it =
    let e = asked.heard.envelope in
    let reading = reading_at s time in
    let recv : Logged = record { skipped = s.pending; entry = Recv e.from e.seq e.prev e.body e.signature } in
    let clock : Logged = next_logged (Clock reading.seconds reading.microseconds) in
    let sent : Logged = next_logged (Send e.from reply) in
    let front = s.entries ++ recv ∷ clock ∷ [] in
    let log : t.entries ≡ front ++ sent ∷ [] =
    ap (λ (n : NodeParts). n.entries) heard_it
    ∙ sym (append_assoc s.entries (recv ∷ clock ∷ []) (sent ∷ [])) in
    let node : t.node ≡ s.node = ap (λ (n : NodeParts). n.node) heard_it in
    let client : c1.node ≡ c.node = ap (λ (n : NodeParts). n.node) asked.taken in
    let joined1 = asked_joined c s c1 t time body r joined asked in
    let long = three s.pending s.entries recv.entry clock.entry in
    let place : span front + 1 + 0 ≡ number = omega (arith, long, at) in
    let x = envelope_shown (sender_of t) front [] 0 e.from reply is log in
    let f = x.0 in
    let k = x.1 in
    let version : t.log_version ≡ s.log_version = ap (λ (n : NodeParts). n.log_version) heard_it in
    let numbered : number_in t.log_version f.seq ≡ number = k.stands ∙ place in
    let seen : number_in s.log_version f.seq ≡ number =
    ap (λ (v : LogVersion). number_in v f.seq) (sym version) ∙ numbered in
    let past : span s.entries < number_in s.log_version f.seq = omega (arith, seen, at) in
    let all : span t.entries ≡ span front + 1 + 0 = ap span log ∙ span-snoc front sent in
    let key : next_number s + 1 + 1 ≡ f.seq = omega (arith, at, k.numbered, place) in (
      record {
        envelope = f;
        reaches = record {
          envelope = ap (envelope_at (sender_of t)) (sym place) ∙ k.there;
          receiver = k.receiver ∙ asked.heard.call.sender ∙ sym client;
          two = λ same. joined1.two (sym same);
          listed = joined1.server;
          new = not_received s.log_version c1.node 0 (span s.entries) c1.entries
              (record {
                from = f.from;
                seq = f.seq;
                hash = message_hash f.to f.seq f.prev (sha256 f.body);
              })
              (subst (λ (j : ℕ). ReceivesUpTo s.log_version j (span s.entries) c1.entries)
              (sym (k.sender ∙ node))
              (client_up_to c s c1 t time body r s.log_version s.node (span s.entries) asked joined.received))
              past;
        };
        numbered = numbered;
        within = omega (arith, all, place);
        client = joined1.client;
        awaited = subst (λ (n : NodeParts). IsSome (finite.get n.state.sends f.seq)) (sym heard_it)
            (subst (λ (j : ℕ). IsSome (finite.get
            (with_answer s asked.heard.receives.world e reading (Some reply)).state.sends j)) key
            (sent_there s.state.sends (next_number s + 1 + 1) _));
      },
      k.says,
    )

-- A reply that the receipt names is ready at its number, and is the one owed.
pub reply_due : (c s c1 t : NodeParts) (time : Timeval) (body : List ℕ) (r : Receipt) (number : ℕ)
    → IsJoined c s
    → IsAsked c s time body r c1 t → IsSender (sender_of t) → r.reply ≡ Some number
    → IsDue c1 s t time body number
reply_due c s c1 t time body r number joined asked is owed =
    by (reply_owed asked.heard.receives.world (reading_at s time) asked.heard.envelope.body) refl
  where
    serves : IsServed s time body
        (reply_owed asked.heard.receives.world (reading_at s time) asked.heard.envelope.body) t
    serves = served_by s t time body asked.heard.envelope r asked.heard.call.says asked.heard.receives

    by : (o : Option (List ℕ))
        → reply_owed asked.heard.receives.world (reading_at s time) asked.heard.envelope.body ≡ o
        → IsDue c1 s t time body number
    by None x =
        let none : r.reply ≡ None =
        ap (λ (y : Receipt). y.reply) asked.heard.receives.receipt
        ∙ ap (λ (o : Option (List ℕ)). (receipt_from (next_number s) o).reply) x in
        absurd (cc)
    by (Some reply) x =
        let some : r.reply ≡ Some (next_number s + 2) =
        ap (λ (y : Receipt). y.reply) asked.heard.receives.receipt
        ∙ ap (λ (o : Option (List ℕ)). (receipt_from (next_number s) o).reply) x in
        let at : number ≡ next_number s + 2 = same_Some _ _ (sym owed ∙ some) in
        let heard_it : t ≡ with_answer s asked.heard.receives.world asked.heard.envelope (reading_at s time)
        (Some reply) =
        plainly s t time asked.heard.envelope r joined.plain asked.heard.receives
        ∙ ap (with_answer s asked.heard.receives.world asked.heard.envelope (reading_at s time)) x in
        let y = reply_ready c s c1 t time body r number reply joined asked is at heard_it in
        record {
          ready = y.0;
          served =
              subst (λ (o : Option (List ℕ)). IsServed s time body o t)
              (x ∙ ap (λ (b : List ℕ). Some b) (sym y.1)) serves;
        }

-- A receipt that names no reply owes none.
pub none_owed : (s t : NodeParts) (time : Timeval) (body : List ℕ) (e : Envelope) (r : Receipt)
    → e.body ≡ body
    → ReceivesEnvelope s time e r t → r.reply ≡ None → IsServed s time body None t
none_owed s t time body e r says receives none =
    by (reply_owed receives.world (reading_at s time) e.body) refl
  where
    by : (o : Option (List ℕ)) → reply_owed receives.world (reading_at s time) e.body ≡ o
        → IsServed s time body None t
    by None x =
        subst (λ (o : Option (List ℕ)). IsServed s time body o t) x
        (served_by s t time body e r says receives)
    by (Some reply) x =
        let some : r.reply ≡ Some (next_number s + 2) =
        ap (λ (y : Receipt). y.reply) receives.receipt
        ∙ ap (λ (o : Option (List ℕ)). (receipt_from (next_number s) o).reply) x in
        absurd (cc)

-- No reply is owed to the call.
pub none_due : (c s c1 t : NodeParts) (time : Timeval) (body : List ℕ) (r : Receipt)
    → IsAsked c s time body r c1 t → r.reply ≡ None → IsServed s time body None t
none_due c s c1 t time body r asked none =
    none_owed s t time body asked.heard.envelope r asked.heard.call.says asked.heard.receives none

-- ---- after a reply

-- the reply that was brought back is the one that was ready
same_envelope : (c1 t c2 t2 : NodeParts) (number : ℕ) (reply : List ℕ) (h : IsReplyReady c1 t number)
    (k : IsReplied c1 t number reply c2 t2) → k.envelope ≡ h.envelope
same_envelope c1 t c2 t2 number reply h k = same_Some _ _ (sym k.received.envelope ∙ h.reaches.envelope)

-- What the server did stays so.
pub served_replied : (c1 s t c2 t2 : NodeParts) (time : Timeval) (body : List ℕ) (number : ℕ) (reply : List ℕ)
    → IsDue c1 s t time body number → IsReplied c1 t number reply c2 t2 → IsServed s time body (Some reply) t2
served_replied c1 s t c2 t2 time body number reply due k =
    let says : reply ≡ due.ready.envelope.body =
    k.body ∙ ap (λ (e : Envelope). e.body) (same_envelope c1 t c2 t2 number reply due.ready k) in
    record {
      world = due.served.world;
      idle = due.served.idle;
      owed = ap (λ (b : List ℕ). Some b) says ∙ due.served.owed;
      after = ap (λ (n : NodeParts). n.state.machine) k.taken ∙ due.served.after;
    }

-- Both stay joined.
pub replied_joined : (c1 t c2 t2 : NodeParts) (number : ℕ) (reply : List ℕ) → IsJoined c1 t
    → IsReplyReady c1 t number
    → IsReplied c1 t number reply c2 t2 → IsJoined c2 t2
replied_joined c1 t c2 t2 number reply joined h k =
    let e = k.envelope in
    let got = k.received.received in
    let client : c2.node ≡ c1.node = ap (λ (n : NodeParts). n.node) got in
    let server : t2.node ≡ t.node = ap (λ (n : NodeParts). n.node) k.taken in
    let recv : Logged = record { skipped = c1.pending; entry = Recv e.from e.seq e.prev e.body e.signature } in
    let acked : Logged = record { skipped = t.pending; entry = ack_entry k.ack } in
    let long : span c2.entries ≡ next_number c1 =
    ap (λ (n : NodeParts). span n.entries) got ∙ span-snoc c1.entries recv in
    let longer : span t2.entries ≡ next_number t =
    ap (λ (n : NodeParts). span n.entries) k.taken ∙ span-snoc t.entries acked in
    let seq : number_in t.log_version e.seq ≡ number =
    ap (λ (x : Envelope). number_in t.log_version x.seq) (same_envelope c1 t c2 t2 number reply h k)
    ∙ h.numbered in
    let within = h.within in
    record {
      two = λ same. joined.two (sym client ∙ same ∙ server);
      client = subst (λ (ms : List Member). IsListed ms kinds.Client c2)
          (sym (ap (λ (n : NodeParts). n.roster) k.taken))
          (listed_stays t.roster kinds.Client c1 c2 client (ap (λ (n : NodeParts). n.log_version) got)
          (ap (λ (n : NodeParts). n.signer.master) got)
          (ap (λ (n : NodeParts). n.signer.height) got) joined.client);
      server = subst (λ (ms : List Member). IsListed ms kinds.Server t2)
          (sym (ap (λ (n : NodeParts). n.roster) got))
          (listed_stays c1.roster kinds.Server t t2 server (ap (λ (n : NodeParts). n.log_version) k.taken)
          (ap (λ (n : NodeParts). n.signer.master) k.taken)
          (ap (λ (n : NodeParts). n.signer.height) k.taken) joined.server);
      heard = subst (λ (n : NodeParts). ReceivesUpTo n.log_version n.node (span c2.entries) t2.entries) (sym got)
          (subst (λ (n : NodeParts). ReceivesUpTo c1.log_version c1.node (span c2.entries) n.entries)
          (sym k.taken)
          (up_to_both c1.log_version c1.node (span c2.entries) t.entries (acked ∷ [])
          (up_to_more c1.log_version c1.node (span c1.entries) (span c2.entries) t.entries
          (omega (arith, long)) joined.heard)
          (omega arith, tt)));
      received = subst (λ (n : NodeParts). ReceivesUpTo n.log_version n.node (span t2.entries) c2.entries)
          (sym k.taken)
          (subst (λ (n : NodeParts). ReceivesUpTo t.log_version t.node (span t2.entries) n.entries) (sym got)
          (up_to_both t.log_version t.node (span t2.entries) c1.entries (recv ∷ [])
          (up_to_more t.log_version t.node (span t.entries) (span t2.entries) c1.entries
          (omega (arith, longer)) joined.received) (
            recv_up_to t.log_version t.node (span t2.entries) e.from e.seq e.prev e.body e.signature
                (omega (arith, seq, within, longer)),
            tt,
          )));
      plain = ap (λ (n : NodeParts). n.lies) k.taken ∙ joined.plain;
    }
