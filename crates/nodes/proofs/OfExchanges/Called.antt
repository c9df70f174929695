-- A call reaches the server, and its acknowledgement the client.
-- Serves: Answered, laws.calls_are_accepted, and nodes: exchange.ask.
use Rattle.std.proofs.Common.{◌≡◌, ℕ, ◌<◌, Bool, true, false, cond, List, [], ◌∷◌, ◌++◌, Option}
use Rattle.std.proofs.Common.{Some}
use Rattle.std.proofs.Common.{None, refl, sym, ap, subst, ◌∙◌, arith, nat_cmp}
use Rattle.std.specs.Prelude.{IsSome, IsSomeAnd}
use Rattle.std.specs.FinMap as finite
use Rattle.std.specs.Ordering.{eq_by_cmp}
use Rattle.std.specs.Cmp.{nat_cmp_total, eq_by_cmp_equiv}
use Rattle.sha2.specs.Sha256.{sha256}
use Rattle.merkle_keys.specs.Tree.{root}
use Rattle.authenticator.specs.Roster.{member_of}
use Rattle.authenticator.specs.declared.member.Kind.{Kind}
use Rattle.authenticator.specs.declared.member.Kind.TheVariants as kinds
use Rattle.authenticator.specs.declared.member.Member.{Member}
use Rattle.authenticator.specs.Numbers.{number_in}
use Rattle.secure_log.specs.LogEntries.Chain.{Logged, span}
use Rattle.secure_log.specs.LogEntries.Messages.{message_hash}
use Rattle.secure_log.specs.declared.log_entries.entry.Entry.TheVariants.{Send, Recv, Clock}
use Rattle.envelopes.specs.declared.envelope.Envelope.{Envelope}
use Rattle.envelopes.specs.declared.acknowledgement.Ack.{Ack}
use Rattle.commitment.specs.Senders.LookUps.{FitsEnvelope, ack_at, envelope_at}
use Rattle.commitment.specs.Senders.Sender.{IsSender}
use Rattle.nfs_items.specs.Timeval.{Timeval}
use Rattle.server_spec.specs.Replies.{reply_owed}
use Rattle.state_spec.specs.State.{SentMessage}
use Rattle.node_logs.specs.replay_spec.LogLaws.HonestServers.{heard_entries, next_logged}
use Rattle.node_logs.specs.Steps.Nodes.{NodeParts, next_number, next_word, sender_of, straying}
use Rattle.node_logs.specs.Nodes.{LacksKeys, LacksNumbers}
use Rattle.node_logs.specs.Receiving.{ReceivesEnvelope, lies_still}
use Rattle.node_logs.specs.Steps.Serving.{reading_at, reply_told, with_answer, with_told}
use Rattle.node_logs.specs.Steps.Logging.{with_send}
use Rattle.node_logs.specs.declared.outcome.Receipt.{Receipt}
use Rattle.nodes.specs.Exchanges.Members.{IsListed, IsMemberAs}
use Rattle.nodes.specs.Exchanges.Reaching.{AckReaches, Reaches, ReceivesUpTo}
use Rattle.nodes.specs.Exchanges.Exchanges.{IsCall, IsJoined, having_called}
use Rattle.nodes.proofs.OfExchanges.Shown.{ack_shown, envelope_shown}
use Rattle.nodes.proofs.OfExchanges.Fresh.{not_received}

-- ---- rosters

-- A node that keeps its number, the version of its log and its keys stays listed.
pub listed_stays : (ms : List Member) (kind : Kind) (n t : NodeParts) → t.node ≡ n.node
    → t.log_version ≡ n.log_version → t.signer.master ≡ n.signer.master → t.signer.height ≡ n.signer.height
    → IsListed ms kind n → IsListed ms kind t
listed_stays ms kind n t node version master height h =
    subst (λ (k : ℕ). IsSomeAnd (member_of ms k) (IsMemberAs kind t)) (sym node) (by (member_of ms n.node) h)
  where
    turned : (m : Member) → IsMemberAs kind n m → IsMemberAs kind t m
    turned m x = record {
      kind_of = x.kind_of;
      keys = record {
        version = x.keys.version ∙ sym version;
        root = x.keys.root ∙ sym (ap (λ (k : List ℕ). root k t.signer.height) master
            ∙ ap (root n.signer.master) height);
        height = x.keys.height ∙ sym height;
      };
    }

    by : (o : Option Member) → IsSomeAnd o (IsMemberAs kind n) → IsSomeAnd o (IsMemberAs kind t)
    by None x = x
    by (Some m) x = turned m x

-- ---- the messages sent

some_true : {X : Type 0} (x : X) (o p : Option X) (b : Bool) → b ≡ true → o ≡ cond b (Some x) p → IsSome o
some_true x o p b h e = subst IsSome (sym (e ∙ ap (λ (c : Bool). cond c (Some x) p) h)) refl

-- A message that was put among those sent is there.
pub sent_there : (sends : finite.FinMap nat_cmp SentMessage) (k : ℕ) (m : SentMessage)
    → IsSome (finite.get (finite.insert sends k m) k)
sent_there sends k m =
    some_true m (finite.get (finite.insert sends k m) k) (finite.get sends k) (eq_by_cmp nat_cmp k k)
    ((eq_by_cmp_equiv nat_cmp_total).refl k) (finite.get-insert nat_cmp_total sends k m k)

-- ---- the call

-- The envelope of a call reaches the server.
pub call_reaches : (c s : NodeParts) (body : List ℕ) → IsJoined c s
    → IsSender (sender_of (having_called c s body))
    → (e : Envelope) × (IsCall c s body e
    × Reaches (having_called c s body) kinds.Client (next_number c) s e)
call_reaches c s body joined is =
    let x = envelope_shown (sender_of (having_called c s body)) c.entries [] c.pending s.node body is refl in
    let e = x.0 in
    let h = x.1 in
    let past : span c.entries < number_in c.log_version e.seq = omega (arith, h.stands) in (
      e,
      (
        record {
          shown = h.there;
          sender = h.sender;
          receiver = h.receiver;
          numbered = h.numbered;
          stands = h.stands;
          says = h.says;
        },
        record {
          envelope = h.there;
          receiver = h.receiver;
          two = joined.two;
          listed = listed_stays s.roster kinds.Client c (having_called c s body) refl refl refl refl joined.client;
          new = not_received c.log_version s.node 0 (span c.entries) s.entries
              (record {
                from = e.from;
                seq = e.seq;
                hash = message_hash e.to e.seq e.prev (sha256 e.body);
              })
              (subst (λ (k : ℕ). ReceivesUpTo c.log_version k (span c.entries) s.entries) (sym h.sender)
              joined.heard)
              past;
        },
      ),
    )

-- what the client's SEND is
pub record IsSentBy (c s : NodeParts) (body : List ℕ) (c1 : NodeParts) (number : ℕ) : Type 0 where
  -- the client has a key left
  pub left : ¬ LacksKeys 1 c
  -- its log has a number for the SEND
  pub numbers : ¬ LacksNumbers 1 c
  -- the client is as it is after the SEND
  pub is : c1 ≡ having_called c s body
  -- the SEND has the next number
  pub numbered : number ≡ next_number c
  -- the envelope of the SEND
  pub envelope : Envelope
  -- it is the call with this body
  pub call : IsCall c s body envelope
  -- it reaches the server
  pub reaches : Reaches c1 kinds.Client number s envelope

-- What the client's SEND is, once it is logged: its envelope is the call, and it reaches the server.
pub sent_by : (c s : NodeParts) (to : ℕ) (body : List ℕ) (c1 : NodeParts) (number : ℕ) → IsJoined c s
    → to ≡ s.node
    → (¬ LacksKeys 1 c) × (¬ LacksNumbers 1 c) × (c1 ≡ with_send c to body) × (number ≡ next_number c)
    → IsSender (sender_of c1)
    → IsSentBy c s body c1 number
sent_by c s to body c1 number joined at sends is =
    let same : c1 ≡ having_called c s body = sends.2 ∙ ap (λ (k : ℕ). with_send c k body) at in
    let x = call_reaches c s body joined (subst (λ (n : NodeParts). IsSender (sender_of n)) same is) in
    record {
      left = sends.0;
      numbers = sends.1;
      is = same;
      numbered = sends.3;
      envelope = x.0;
      call = x.1.0;
      reaches =
          subst (λ (n : NodeParts). Reaches n kinds.Client number s x.0) (sym same)
          (subst (λ (k : ℕ). Reaches (having_called c s body) kinds.Client k s x.0) (sym sends.3) x.1.1);
    }

-- ---- what the server logs

-- A server that doesn't lie has served an envelope by the reply that is owed.
pub plainly : (s t : NodeParts) (time : Timeval) (e : Envelope) (r : Receipt) → s.lies ≡ false
    → (h : ReceivesEnvelope s time e r t)
    → t ≡ with_answer s h.world e (reading_at s time) (reply_owed h.world (reading_at s time) e.body)
plainly s t time e r plain h =
    let o = reply_owed h.world (reading_at s time) e.body in
    h.served
    ∙ ap (λ (b : Bool). straying (lies_still b o) s.strayed (with_told b s h.world e (reading_at s time)))
    plain
    ∙ ap (λ (b : Bool). straying b s.strayed (with_answer s h.world e (reading_at s time) o)) (sym plain)

-- its RECV stands first
pub recv_first : (skipped : ℕ) (e : Envelope) (time : Timeval) (o : Option (List ℕ))
    → (rest : List Logged)
    × (heard_entries skipped e.from e.seq e.prev e.body e.signature time o
    ≡ record { skipped = skipped; entry = Recv e.from e.seq e.prev e.body e.signature } ∷ rest)
recv_first skipped e time None = (next_logged (Clock time.seconds time.microseconds) ∷ [], refl)
recv_first skipped e time (Some reply) =
    (next_logged (Clock time.seconds time.microseconds) ∷ next_logged (Send e.from reply) ∷ [], refl)

-- The acknowledgement of a call reaches the client.
pub call_acknowledged : (c s t : NodeParts) (body : List ℕ) (e : Envelope) (time : Timeval) (r : Receipt)
    → IsJoined c s
    → IsCall c s body e → ReceivesEnvelope s time e r t → IsSender (sender_of t)
    → (a : Ack) × AckReaches t kinds.Server r.ack (having_called c s body) a
call_acknowledged c s t body e time r joined call receives is =
    let reading = reading_at s time in
    let o = reply_told s.lies (reply_owed receives.world reading e.body) in
    let first = recv_first s.pending e reading o in
    let recv : Logged = record { skipped = s.pending; entry = Recv e.from e.seq e.prev e.body e.signature } in
    let log : t.entries ≡ s.entries ++ recv ∷ first.0 =
    ap (λ (x : NodeParts). x.entries) receives.served ∙ ap (λ (es : List Logged). s.entries ++ es) first.1 in
    let node : t.node ≡ s.node = ap (λ (x : NodeParts). x.node) receives.served in
    let x = ack_shown (sender_of t) s.entries first.0 s.pending e.from e.seq e.prev e.body e.signature is log in
    let a = x.0 in
    let h = x.1 in
    let c1 = having_called c s body in
    let number : number_in c.log_version a.seq ≡ next_number c =
    ap (number_in c.log_version) h.numbered ∙ call.stands in
    let seq : a.seq ≡ next_word c = h.numbered ∙ call.numbered in
    let fits : FitsEnvelope a e = record {
      receiver = h.signer ∙ node ∙ sym call.receiver;
      sender = h.sender;
      number = h.numbered;
      prev = h.before;
      body = h.says;
      signature = h.signed;
    } in (
      a,
      record {
        ack = ap (ack_at (sender_of t)) (ap (λ (x : Receipt). x.ack) receives.receipt) ∙ h.there;
        fits = subst (λ (o : Option Envelope). IsSomeAnd o (FitsEnvelope a))
            (sym (ap (envelope_at (sender_of c1)) number ∙ call.shown)) fits;
        listed = listed_stays c.roster kinds.Server s t node
            (ap (λ (x : NodeParts). x.log_version) receives.served)
            (ap (λ (x : NodeParts). x.signer.master) receives.served)
            (ap (λ (x : NodeParts). x.signer.height) receives.served)
            joined.server;
        awaited = subst (λ (k : ℕ). IsSome (finite.get c1.state.sends k)) (sym seq)
            (sent_there c.state.sends (next_word c) _);
      },
    )
