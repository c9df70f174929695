-- The messages that were received in the last state of an honest log are those of its RECVs, each once.
-- Serves: no_message_twice, messages_are_logged.
use Rattle.std.proofs.Common.{◌≡◌, ◌⊎◌, inl, inr, ℕ, ◌+◌, Bool, true, false, cond, List, [], ◌∷◌, ◌++◌}
use Rattle.std.proofs.Common.{length, Option, Some, None, is_some, refl, sym, ap, subst, ◌∙◌, arith}
use Rattle.std.specs.FinMap as finite
use Rattle.std.specs.FinSet.{FinSet}
use Rattle.std.specs.Ordering.{eq_by_cmp}
use Rattle.std.proofs.lemmas.Bool.{both_ways}
use Rattle.std.proofs.lemmas.Option.{same_Some}
use Rattle.std.proofs.lemmas.Bool.{false_from_ne_true}
use Rattle.secure_log.specs.authenticator.declared.member.Member.{Member}
use Rattle.sha2.specs.Sha256.{sha256}
use Rattle.secure_log.specs.LogEntries.Messages.{message_hash}
use Rattle.secure_log.specs.declared.log_entries.entry.Entry.{Entry}
use Rattle.secure_log.specs.declared.log_entries.entry.Entry.TheVariants.{Send, Recv, Ack, Clock, Check}
use Rattle.secure_log.specs.authenticator.Numbers.{word_of}
use Rattle.secure_log.specs.LogEntries.Chain.{Logged, span}
use Rattle.secure_log.specs.Log.{log_hash}
use Rattle.state_spec.specs.State.{ReceivedMessage, received_cmp, is_received, with_received}
use Rattle.state_spec.specs.State.{Machine, State}
use Rattle.state_spec.specs.State.{opened_with}
use Rattle.replay_spec.specs.Placed.{Placed, logged_place}
use Rattle.replay_spec.specs.Steps.{received_message, after_entry, Takes, MayStand}
use Rattle.replay_spec.specs.HonestLogs.{IsHonestLog}
use Rattle.replay_spec.specs.LogLaws.LoggedMessages.{entries_of, entry_at, IsReceivedAt}
use Rattle.state_spec.proofs.Orders.{received_total, ties_equal, equal_ties}
use Rattle.replay_spec.proofs.Logs.{carried, node_step}
use Rattle.replay_spec.proofs.OfLogLaws.Entries.{entry_more, entry_last, entry_less, entry_within}
use Rattle.replay_spec.proofs.OfLogLaws.Entries.{one_entry_more}

-- ---- one entry

-- the message that an entry takes in, if it is a RECV
abbrev pub message_in : ℕ → Entry → Option ReceivedMessage
message_in node (Send to body) = None
message_in node (Recv from seq prev body signature) = Some (received_message node from seq prev body)
message_in node (Ack to seq mine number prev signature) = None
message_in node (Clock seconds microseconds) = None
message_in node (Check digest) = None

-- a set with a message more, if there is one
abbrev with_message : FinSet received_cmp → Option ReceivedMessage → FinSet received_cmp
with_message received None = received
with_message received (Some m) = with_received received m

received_after : (s : State) (entry_word : ℕ) (before : List ℕ) (e : Entry)
    → (after_entry s entry_word before e).received ≡ with_message s.received (message_in s.node e)
received_after s entry_word before (Send to body) = refl
received_after s entry_word before (Recv from seq prev body signature) = refl
received_after s entry_word before (Ack to seq mine theirs prev signature) = refl
received_after s entry_word before (Clock seconds microseconds) = refl
received_after s entry_word before (Check digest) = refl

-- what a step does to the messages that were received
pub received_step : (ms : List Member) (s t : State) (p : Placed) → Takes ms s p t
    → t.received ≡ with_message s.received (message_in s.node p.entry)
received_step ms s t p h =
    ap (λ (x : State). x.received) h.after
    ∙ received_after s (word_of p.skipped p.number) p.before p.entry

-- a message that is taken in wasn't there
new_message : (ms : List Member) (s : State) (e : Entry) (m : ReceivedMessage) → MayStand ms s e
    → message_in s.node e ≡ Some m → is_received s.received m ≡ false
new_message ms s (Send to body) m h k = absurd (cc)
new_message ms s (Recv from seq prev body signature) m h k =
    subst (λ x. is_received s.received x ≡ false) (same_Some _ _ k) h.fresh
new_message ms s (Ack to seq mine theirs prev signature) m h k = absurd (cc)
new_message ms s (Clock seconds microseconds) m h k = absurd (cc)
new_message ms s (Check digest) m h k = absurd (cc)

-- ---- sets

-- whether a message is there once another was taken in
asked : (received : FinSet received_cmp) (new m : ReceivedMessage)
    → is_received (with_received received new) m
    ≡ is_some (cond (eq_by_cmp received_cmp m new) (Some tt) (finite.get received m))
asked received new m = ap is_some (finite.get-insert received_total received new tt m)

with_new : (received : FinSet received_cmp) (m : ReceivedMessage)
    → is_received (with_received received m) m ≡ true
with_new received m =
    asked received m m
    ∙ ap (λ b. is_some (cond b (Some tt) (finite.get received m))) (equal_ties m m refl)

with_old : (received : FinSet received_cmp) (o : Option ReceivedMessage) (m : ReceivedMessage)
    → is_received received m ≡ true → is_received (with_message received o) m ≡ true
with_old received None m h = h
with_old received (Some new) m h = asked received new m ∙ by (eq_by_cmp received_cmp m new)
  where
    by : (b : Bool) → is_some (cond b (Some tt) (finite.get received m)) ≡ true
    by true = refl
    by false = h

-- a message that is there was there, or is the one that was taken in
old_or_new : (received : FinSet received_cmp) (o : Option ReceivedMessage) (m : ReceivedMessage)
    → is_received (with_message received o) m ≡ true → (is_received received m ≡ true) ⊎ (o ≡ Some m)
old_or_new received None m h = inl h
old_or_new received (Some new) m h = by (eq_by_cmp received_cmp m new) refl (sym (asked received new m) ∙ h)
  where
    by : (b : Bool) → eq_by_cmp received_cmp m new ≡ b
        → is_some (cond b (Some tt) (finite.get received m)) ≡ true
        → (is_received received m ≡ true) ⊎ (◌≡◌ {A = Option ReceivedMessage} (Some new) (Some m))
    by true e h = inr (ap (λ x. Some x) (sym (ties_equal m new e)))
    by false e h = inl h

-- ---- logs

-- a log's entry at a place takes in a message
pub record TakesIn (node : ℕ) (es : List Entry) (number : ℕ) (m : ReceivedMessage) : Type 0 where
  -- the entry
  pub entry : Entry
  -- it stands at the place
  pub there : entry_at es number ≡ Some entry
  -- it brings the message
  pub brings : message_in node entry ≡ Some m

takes_more : (node : ℕ) (es : List Entry) (e : Entry) (k : ℕ) (m : ReceivedMessage) → TakesIn node es k m
    → TakesIn node (es ++ e ∷ []) k m
takes_more node es e k m h =
    record { entry = h.entry; there = entry_more es e k h.entry h.there; brings = h.brings }

takes_last : (node : ℕ) (es : List Entry) (e : Entry) (m : ReceivedMessage) → message_in node e ≡ Some m
    → TakesIn node (es ++ e ∷ []) (length es + 1) m
takes_last node es e m h = record { entry = e; there = entry_last es e (length es + 1) refl; brings = h }

takes_less : (node : ℕ) (es : List Entry) (e : Entry) (k : ℕ) (m : ReceivedMessage)
    → TakesIn node (es ++ e ∷ []) k m
    → TakesIn node es k m ⊎ ((k ≡ length es + 1) × (message_in node e ≡ Some m))
takes_less node es e k m h = by (entry_less es e k h.entry h.there)
  where
    by : (entry_at es k ≡ Some h.entry) ⊎ ((k ≡ length es + 1) × (e ≡ h.entry))
        → TakesIn node es k m ⊎ ((k ≡ length es + 1) × (message_in node e ≡ Some m))
    by (inl old) = inl (record { entry = h.entry; there = old; brings = h.brings })
    by (inr new) = inr (new.0, ap (message_in node) new.1 ∙ h.brings)

-- What a log from a state shows of what was received: the messages of before and those of its RECVs, each
-- once and none of before.
pub record IsLogged (o : State) (es : List Entry) (s : State) : Type 0 where
  -- the state is still of the same node
  pub of_node : s.node ≡ o.node
  -- each message of the state was there before, or a RECV of the log brought it
  pub from : (m : ReceivedMessage) → is_received s.received m ≡ true
      → (is_received o.received m ≡ true) ⊎ ((k : ℕ) × TakesIn o.node es k m)
  -- each message that the log takes in is one of the state
  pub all : (k : ℕ) (m : ReceivedMessage) → TakesIn o.node es k m → is_received s.received m ≡ true
  -- each message of before still is
  pub before : (m : ReceivedMessage) → is_received o.received m ≡ true → is_received s.received m ≡ true
  -- none that the log takes in was there before
  pub fresh : (k : ℕ) (m : ReceivedMessage) → TakesIn o.node es k m → is_received o.received m ≡ false
  -- no message is taken in at two places
  pub once : (j k : ℕ) (m : ReceivedMessage) → TakesIn o.node es j m → TakesIn o.node es k m → j ≡ k

nothing_there : (node : ℕ) (k : ℕ) (m : ReceivedMessage) → TakesIn node [] k m → ⊥
nothing_there node k m h = let within = entry_within [] k h.entry h.there in omega (arith, within.0, within.1)

logged_start : (o : State) → IsLogged o [] o
logged_start o = record {
  of_node = refl;
  from = λ m h. inl h;
  all = λ k m h. absurd (nothing_there o.node k m h);
  before = λ m h. h;
  fresh = λ k m h. absurd (nothing_there o.node k m h);
  once = λ j k m h i. absurd (nothing_there o.node j m h);
}

not_both : (b : Bool) → b ≡ true → b ≡ false → ⊥
not_both b h k = both_ways b k h

module _ (o : State) (es : List Entry) (e : Entry) (s t : State) (i : IsLogged o es s)
    (node : t.node ≡ s.node) (brings : t.received ≡ with_message s.received (message_in o.node e))
    (new : (m : ReceivedMessage) → message_in o.node e ≡ Some m → is_received s.received m ≡ false) where
  abbrev longer : List Entry
  longer = es ++ e ∷ []

  -- a message is taken in by the log, or by the entry more
  abbrev Origin : ReceivedMessage → ℕ → Type 0
  Origin m n = TakesIn o.node es n m ⊎ ((n ≡ length es + 1) × (message_in o.node e ≡ Some m))

  there : (m : ReceivedMessage) → is_received s.received m ≡ true → is_received t.received m ≡ true
  there m h =
      subst (λ r. is_received r m ≡ true) (sym brings) (with_old s.received (message_in o.node e) m h)

  comes_from : (m : ReceivedMessage) → is_received t.received m ≡ true
      → (is_received o.received m ≡ true) ⊎ ((k : ℕ) × TakesIn o.node longer k m)
  comes_from m h =
      by (old_or_new s.received (message_in o.node e) m (subst (λ r. is_received r m ≡ true) brings h))
    where
      older : (is_received o.received m ≡ true) ⊎ ((k : ℕ) × TakesIn o.node es k m)
          → (is_received o.received m ≡ true) ⊎ ((k : ℕ) × TakesIn o.node longer k m)
      older (inl x) = inl x
      older (inr x) = inr (x.0, takes_more o.node es e x.0 m x.1)

      by : (is_received s.received m ≡ true) ⊎ (message_in o.node e ≡ Some m)
          → (is_received o.received m ≡ true) ⊎ ((k : ℕ) × TakesIn o.node longer k m)
      by (inl x) = older (i.from m x)
      by (inr x) = inr (length es + 1, takes_last o.node es e m x)

  all_there : (k : ℕ) (m : ReceivedMessage) → TakesIn o.node longer k m → is_received t.received m ≡ true
  all_there k m h = by (takes_less o.node es e k m h)
    where
      by : Origin m k → is_received t.received m ≡ true
      by (inl old) = there m (i.all k m old)
      by (inr last) =
          ap (λ r. is_received r m) (brings ∙ ap (with_message s.received) last.1) ∙ with_new s.received m

  all_fresh : (k : ℕ) (m : ReceivedMessage) → TakesIn o.node longer k m → is_received o.received m ≡ false
  all_fresh k m h = by (takes_less o.node es e k m h)
    where
      by : Origin m k → is_received o.received m ≡ false
      by (inl old) = i.fresh k m old
      by (inr last) =
          false_from_ne_true (is_received o.received m)
          (λ yes. not_both (is_received s.received m) (i.before m yes) (new m last.1))

  one_place : (j k : ℕ) (m : ReceivedMessage) → TakesIn o.node longer j m → TakesIn o.node longer k m → j ≡ k
  one_place j k m h g = by (takes_less o.node es e j m h) (takes_less o.node es e k m g)
    where
      clash : (n : ℕ) → TakesIn o.node es n m → message_in o.node e ≡ Some m → ⊥
      clash n old last = not_both (is_received s.received m) (i.all n m old) (new m last)

      by : Origin m j → Origin m k → j ≡ k
      by (inl x) (inl y) = i.once j k m x y
      by (inl x) (inr y) = absurd (clash j x y.1)
      by (inr x) (inl y) = absurd (clash k y x.1)
      by (inr x) (inr y) = x.0 ∙ sym y.0

  logged_more : IsLogged o longer t
  logged_more = record {
    of_node = node ∙ i.of_node;
    from = comes_from;
    all = all_there;
    before = λ m h. there m (i.before m h);
    fresh = all_fresh;
    once = one_place;
  }

logged_next : (ms : List Member) (o : State) (log : List Logged) (l : Logged) (s t : State)
    → IsLogged o (entries_of log) s
    → Takes ms s (logged_place (span log + 1 + l.skipped) (log_hash log) l) t
    → IsLogged o (entries_of (log ++ l ∷ [])) t
logged_next ms o log l s t i h =
    let p = logged_place (span log + 1 + l.skipped) (log_hash log) l in
    subst (λ es. IsLogged o es t) (sym (one_entry_more log l))
    (logged_more o (entries_of log) l.entry s t i (node_step ms s t p h)
    (subst (λ n. t.received ≡ with_message s.received (message_in n l.entry)) i.of_node
    (received_step ms s t p h))
    (λ m k. new_message ms s l.entry m h.stands (ap (λ n. message_in n l.entry) i.of_node ∙ k)))

-- of every honest log
pub logged : (ms : List Member) (o : State) (log : List Logged) (s : State) → IsHonestLog ms o log s
    → IsLogged o (entries_of log) s
logged ms o log s h =
    carried ms o (λ log. IsLogged o (entries_of log)) (logged_start o) (logged_next ms o) log s h

-- ---- RECVs

-- a message that was received at a place is taken in there
pub at_recv : (node : ℕ) (es : List Entry) (k : ℕ) (m : ReceivedMessage) → IsReceivedAt node es k m
    → TakesIn node es k m
at_recv node es k m h = record {
  entry = Recv m.from m.seq h.prev h.body h.signature;
  there = h.there;
  brings = ap (λ x. Some (record { from = m.from; seq = m.seq; hash = x })) (sym h.hash);
}

-- and one that is taken in was received there
pub recv_at : (node : ℕ) (es : List Entry) (k : ℕ) (m : ReceivedMessage) → TakesIn node es k m
    → IsReceivedAt node es k m
recv_at node es k m h = by h.entry h.there h.brings
  where
    by : (e : Entry) → entry_at es k ≡ Some e → message_in node e ≡ Some m → IsReceivedAt node es k m
    by (Send to body) there brings = absurd (cc)
    by (Recv from seq prev body signature) there brings =
        let same = same_Some _ _ brings in
        record {
          prev = prev;
          body = body;
          signature = signature;
          there = there ∙ ap (λ (x : ReceivedMessage). Some (Recv x.from x.seq prev body signature)) same;
          hash = sym (ap (λ (x : ReceivedMessage). x.hash) same)
              ∙ ap (λ (x : ReceivedMessage). message_hash node x.seq prev (sha256 body)) same;
        }
    by (Ack to seq mine theirs prev signature) there brings = absurd (cc)
    by (Clock seconds microseconds) there brings = absurd (cc)
    by (Check digest) there brings = absurd (cc)

-- the messages that were received in the last state of a log from a state without messages
pub received_are_logged : (ms : List Member) (node : ℕ) (machine : Machine) (s : State) (log : List Logged)
    (m : ReceivedMessage) → IsHonestLog ms (opened_with node machine) log s
    → ((is_received s.received m ≡ true) → ((k : ℕ) × IsReceivedAt node (entries_of log) k m))
    × (((k : ℕ) × IsReceivedAt node (entries_of log) k m) → (is_received s.received m ≡ true))
received_are_logged ms node machine s log m h = (to, λ x. i.all x.0 m (at_recv node es x.0 m x.1))
  where
    es : List Entry
    es = entries_of log

    i : IsLogged (opened_with node machine) es s
    i = logged ms (opened_with node machine) log s h

    by : (is_received (opened_with node machine).received m ≡ true) ⊎ ((k : ℕ) × TakesIn node es k m)
        → (k : ℕ) × IsReceivedAt node es k m
    by (inl x) =
        absurd (not_both (is_received finite.empty m) x (ap is_some (finite.get-empty received_cmp m)))
    by (inr x) = (x.0, recv_at node es x.0 m x.1)

    to : is_received s.received m ≡ true → (k : ℕ) × IsReceivedAt node es k m
    to x = by (i.from m x)
