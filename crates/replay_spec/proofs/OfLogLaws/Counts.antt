-- How many messages honest entries bring, and their numbers.
-- Serves: messages_are_logged, messages_are_bounded.
use Rattle.std.proofs.Common.{◌≡◌, ℕ, ◌+◌, ◌-◌, ◌≤◌, Bool, true, false, cond, List, []}
use Rattle.std.proofs.Common.{◌∷◌, Some, None, is_some, nat_cmp}
use Rattle.std.proofs.Common.{refl, sym, ap, subst, ◌∙◌, arith}
use Rattle.std.specs.FinMap as finite
use Rattle.std.specs.Ordering.{eq_by_cmp}
use Rattle.std.specs.Cmp.{nat_cmp_total, unsigned_tied}
use Rattle.std.proofs.lemmas.List.Sums.{sum_by-cons}
use Rattle.std.proofs.Common.{eqb-true}
use Rattle.std.specs.List.{AllByRecursion}
use Rattle.secure_log.specs.authenticator.declared.member.LogVersion.{LogVersion}
use Rattle.secure_log.specs.authenticator.Numbers.{IsNumber, number_in, word_of}
use Rattle.secure_log.proofs.authenticator.Words.{word_read}
use Rattle.secure_log.specs.authenticator.declared.member.Member.{Member}
use Rattle.secure_log.specs.LogEntries.Chain.{Logged, zeros, hash_after, logged_link, logged_links, span}
use Rattle.secure_log.specs.declared.log_entries.entry.Entry.{Entry}
use Rattle.secure_log.specs.declared.log_entries.entry.Entry.TheVariants.{Send, Recv, Ack, Clock, Check}
use Rattle.state_spec.specs.State.{received_cmp, SentMessage, Machine, State}
use Rattle.state_spec.specs.State.{opened_with}
use Rattle.replay_spec.specs.Placed.{Placed, logged_place, logged_places}
use Rattle.replay_spec.specs.Steps.{Takes, received_message, sent_message, after_entry}
use Rattle.replay_spec.specs.Stepping.{is_send}
use Rattle.replay_spec.specs.Replay.{Honest, last_state}
use Rattle.replay_spec.specs.HonestLogs.{IsHonestLog}
use Rattle.replay_spec.specs.LogLaws.LoggedMessages.{entries_of, is_recv, recv_count, send_count}
use Rattle.replay_spec.specs.LogLaws.Laws.{IsCounted, IsCountedOn, SendsLieUpTo}
use Rattle.state_spec.proofs.Orders.{received_total}

-- ---- counts

-- one where a test passes
abbrev pub one_if : Bool → ℕ
one_if b = cond b 1 0

either : (b : Bool) (n : ℕ) → cond b n (n + 1) ≤ n + 1
either true n = omega arith
either false n = omega arith

fewer : (b : Bool) (n : ℕ) → cond b (n - 1) n ≤ n + 0
fewer true n = omega arith
fewer false n = omega arith

no_more : (n : ℕ) → n ≤ n + 0
no_more n = omega arith

-- by an entry at most one more is received if it's a RECV, and sent if it's a SEND
received_by : (s : State) (entry_word : ℕ) (before : List ℕ) (e : Entry)
    → finite.len (after_entry s entry_word before e).received ≤ finite.len s.received + one_if (is_recv e)
received_by s entry_word before (Send to body) = no_more (finite.len s.received)
received_by s entry_word before (Recv from seq prev body signature) =
    let m = received_message s.node from seq prev body in
    subst (λ n. n ≤ finite.len s.received + 1) (sym (finite.len-insert received_total s.received m tt))
    (either (finite.contains_key s.received m) (finite.len s.received))
received_by s entry_word before (Ack to seq mine theirs prev signature) = no_more (finite.len s.received)
received_by s entry_word before (Clock seconds microseconds) = no_more (finite.len s.received)
received_by s entry_word before (Check digest) = no_more (finite.len s.received)

sent_by : (s : State) (entry_word : ℕ) (before : List ℕ) (e : Entry)
    → finite.len (after_entry s entry_word before e).sends ≤ finite.len s.sends + one_if (is_send e)
sent_by s entry_word before (Send to body) =
    subst (λ n. n ≤ finite.len s.sends + 1)
    (sym (finite.len-insert nat_cmp_total s.sends entry_word (sent_message to before body)))
    (either (finite.contains_key s.sends entry_word) (finite.len s.sends))
sent_by s entry_word before (Recv from seq prev body signature) = no_more (finite.len s.sends)
sent_by s entry_word before (Ack to seq mine theirs prev signature) =
    subst (λ n. n ≤ finite.len s.sends + 0) (sym (finite.len-remove nat_cmp_total s.sends seq))
    (fewer (finite.contains_key s.sends seq) (finite.len s.sends))
sent_by s entry_word before (Clock seconds microseconds) = no_more (finite.len s.sends)
sent_by s entry_word before (Check digest) = no_more (finite.len s.sends)

-- after an entry that a state takes
pub counted_by : (ms : List Member) (s t : State) (p : Placed) → Takes ms s p t → IsCountedOn s (p.entry ∷ []) t
counted_by ms s t p h =
    let entry_word = word_of p.skipped p.number in
    let received = subst (λ (x : State). finite.len x.received ≤ finite.len s.received + one_if (is_recv p.entry))
    (sym h.after) (received_by s entry_word p.before p.entry) in
    let sends = subst (λ (x : State). finite.len x.sends ≤ finite.len s.sends + one_if (is_send p.entry))
    (sym h.after) (sent_by s entry_word p.before p.entry) in
    let recvs = sum_by-cons (λ x. one_if (is_recv x)) p.entry [] in
    let sent = sum_by-cons (λ x. one_if (is_send x)) p.entry [] in
    record { received = omega (arith, received, recvs); sends = omega (arith, sends, sent) }

-- after any state
pub counted_on : (ms : List Member) (s : State) (number : ℕ) (before : List ℕ) (log : List Logged)
    (ts : List State) → Honest ms s (logged_places number before log) ts
    → IsCountedOn s (entries_of log) (last_state s ts)
counted_on ms s number before [] [] h =
    record { received = no_more (finite.len s.received); sends = no_more (finite.len s.sends) }
counted_on ms s number before [] (t ∷ ts) h = absurd h
counted_on ms s number before (l ∷ log) [] h = absurd h
counted_on ms s number before (l ∷ log) (t ∷ ts) h =
    let n = number + 1 + l.skipped in
    let rest = counted_on ms t n (hash_after before (logged_link n l)) log ts h.1 in
    let one = counted_by ms s t (logged_place n before l) h.0 in
    let recv = sum_by-cons (λ x. one_if (is_recv x)) l.entry [] in
    let send = sum_by-cons (λ x. one_if (is_send x)) l.entry [] in
    let recvs = sum_by-cons (λ x. one_if (is_recv x)) l.entry (entries_of log) in
    let sent = sum_by-cons (λ x. one_if (is_send x)) l.entry (entries_of log) in
    record {
      received = omega (arith, rest.received, one.received, recv, recvs);
      sends = omega (arith, rest.sends, one.sends, send, sent);
    }

-- of a log from a state without messages
pub counted : (ms : List Member) (node : ℕ) (machine : Machine) (s : State) (log : List Logged)
    → IsHonestLog ms (opened_with node machine) log s → IsCounted (entries_of log) s
counted ms node machine s log h =
    let all = counted_on ms (opened_with node machine) 0 zeros log h.states h.honest in
    let received = finite.len-empty received_cmp (Unit {0}) in
    let sends = finite.len-empty nat_cmp SentMessage in
    let last = h.last in
    record {
      received = subst (λ (x : State). finite.len x.received ≤ recv_count (entries_of log)) last
          (omega (arith, all.received, received));
      sends = subst (λ (x : State). finite.len x.sends ≤ send_count (entries_of log)) last
          (omega (arith, all.sends, sends));
    }

-- ---- numbers

module _ (v : LogVersion) where
  low_insert : (sends : finite.FinMap nat_cmp SentMessage) (new n : ℕ) (m : SentMessage)
      → number_in v new ≤ n
      → ((k : ℕ) → finite.contains_key sends k ≡ true → number_in v k ≤ n)
      → (k : ℕ) → finite.contains_key (finite.insert sends new m) k ≡ true → number_in v k ≤ n
  low_insert sends new n m last low k h =
      by (eq_by_cmp nat_cmp k new) refl (sym (ap is_some (finite.get-insert nat_cmp_total sends new m k)) ∙ h)
    where
      by : (b : Bool) → eq_by_cmp nat_cmp k new ≡ b → is_some (cond b (Some m) (finite.get sends k)) ≡ true
          → number_in v k ≤ n
      by true e there =
          subst (λ x. number_in v x ≤ n) (sym (eqb-true k new (sym (unsigned_tied k new) ∙ e))) last
      by false e there = low k there

  low_remove : (sends : finite.FinMap nat_cmp SentMessage) (seq n : ℕ)
      → ((k : ℕ) → finite.contains_key sends k ≡ true → number_in v k ≤ n)
      → (k : ℕ) → finite.contains_key (finite.remove sends seq) k ≡ true → number_in v k ≤ n
  low_remove sends seq n low k h =
      by (eq_by_cmp nat_cmp k seq) (sym (ap is_some (finite.get-remove nat_cmp_total sends seq k)) ∙ h)
    where
      by : (b : Bool) → is_some (cond b None (finite.get sends k)) ≡ true → number_in v k ≤ n
      by true there = absurd (cc)
      by false there = low k there

  low_more : (s : State) (n more : ℕ) → n ≤ more → SendsLieUpTo v s n → SendsLieUpTo v s more
  low_more s n more le low k h = let least = low k h in omega (arith, least, le)

  low_by : (s : State) (entry_word n : ℕ) (before : List ℕ) (e : Entry) → number_in v entry_word ≤ n
      → SendsLieUpTo v s n → SendsLieUpTo v (after_entry s entry_word before e) n
  low_by s entry_word n before (Send to body) last low =
      low_insert s.sends entry_word n (sent_message to before body) last low
  low_by s entry_word n before (Recv from seq prev body signature) last low = low
  low_by s entry_word n before (Ack to seq mine theirs prev signature) last low = low_remove s.sends seq n low
  low_by s entry_word n before (Clock seconds microseconds) last low = low
  low_by s entry_word n before (Check digest) last low = low

  -- messages that were sent keep to numbers up to the last
  pub lie_low : (ms : List Member) (s : State) (number : ℕ) (before : List ℕ) (log : List Logged)
      (ts : List State) → SendsLieUpTo v s number
      → AllByRecursion (λ l. IsNumber v l.skipped l.number) (logged_links number log)
      → Honest ms s (logged_places number before log) ts → SendsLieUpTo v (last_state s ts) (number + span log)
  lie_low ms s number before [] [] low numbered h = low_more s number (number + 0) (omega arith) low
  lie_low ms s number before [] (t ∷ ts) low numbered h = absurd h
  lie_low ms s number before (l ∷ log) [] low numbered h = absurd h
  lie_low ms s number before (l ∷ log) (t ∷ ts) low numbered h =
      let n = number + 1 + l.skipped in
      let same : n + span log ≡ number + span (l ∷ log) = omega arith in
      let last : number_in v (word_of l.skipped n) ≤ n = omega (arith, (word_read v l.skipped n numbered.0).0) in
      let next =
      subst (λ x. SendsLieUpTo v x n) (sym h.0.after)
      (low_by s (word_of l.skipped n) n before l.entry last (low_more s number n (omega arith) low)) in
      subst (SendsLieUpTo v (last_state t ts)) same
      (lie_low ms t n (hash_after before (logged_link n l)) log ts next numbered.1 h.1)
