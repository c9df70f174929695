-- The messages that were sent in the last state of an honest log are those of its SENDs that have no ACK.
-- Serves: messages_are_logged.
use Rattle.std.proofs.Common.{◌≡◌, ◌≢◌, ◌⊎◌, inl, inr, ℕ, ◌+◌, true, false, cond, List, []}
use Rattle.std.proofs.Common.{◌∷◌, ◌++◌, length, Option, Some, None, nat_cmp, eq-eqb, ne_eqb}
use Rattle.std.proofs.Common.{refl, sym, ap, ap₂, subst, ◌∙◌, arith}
use Rattle.std.specs.FinMap as finite
use Rattle.std.specs.Ordering.{eq_by_cmp}
use Rattle.std.specs.Cmp.{nat_cmp_total, unsigned_tied}
use Rattle.std.proofs.lemmas.Bool.{cases_eq}
use Rattle.std.proofs.lemmas.Option.{same_Some}
use Rattle.sha2.specs.Sha256.{sha256}
use Rattle.merkle_keys.specs.Signing.{SignatureParts}
use Rattle.secure_log.specs.authenticator.declared.member.Member.{Member}
use Rattle.secure_log.specs.declared.log_entries.entry.Entry.{Entry}
use Rattle.secure_log.specs.declared.log_entries.entry.Entry.TheVariants.{Send, Recv, Ack, Clock, Check}
use Rattle.secure_log.specs.authenticator.declared.member.LogVersion.{LogVersion}
use Rattle.secure_log.specs.authenticator.Numbers.{word_of}
use Rattle.secure_log.specs.LogEntries.Chain.{Logged, span}
use Rattle.secure_log.specs.Log.{HasNumbers, log_hash}
use Rattle.state_spec.specs.State.{SentMessage, Machine, State, opened_with}
use Rattle.replay_spec.specs.Steps.{sent_message, after_entry, MayStand}
use Rattle.replay_spec.specs.HonestLogs.{IsHonestLog}
use Rattle.replay_spec.specs.LogLaws.LoggedMessages.{entries_of, entry_at, IsSentAt, HasNoAck}
use Rattle.replay_spec.proofs.Logs.{carried}
use Rattle.replay_spec.proofs.OfLogLaws.Entries.{entry_more, entry_last, entry_less, entry_within}
use Rattle.replay_spec.proofs.OfLogLaws.Entries.{one_entry_more}
use Rattle.replay_spec.proofs.OfLogLaws.Numbers.{entry_stays, last_entry, numbers_front, parts_of_more}
use Rattle.replay_spec.proofs.OfLogLaws.Numbers.{word_apart}

-- ---- maps by words

abbrev Sends : Type 0
Sends = finite.FinMap nat_cmp SentMessage

tie : (k n : ℕ) → k ≡ n → eq_by_cmp nat_cmp k n ≡ true
tie k n h = unsigned_tied k n ∙ eq-eqb k n h

no_tie : (k n : ℕ) → k ≢ n → eq_by_cmp nat_cmp k n ≡ false
no_tie k n h = unsigned_tied k n ∙ ne_eqb k n h

get_new : (sends : Sends) (n : ℕ) (m : SentMessage) (k : ℕ) → k ≡ n
    → finite.get (finite.insert sends n m) k ≡ Some m
get_new sends n m k h =
    finite.get-insert nat_cmp_total sends n m k ∙ ap (λ b. cond b (Some m) (finite.get sends k)) (tie k n h)

get_other : (sends : Sends) (n : ℕ) (m : SentMessage) (k : ℕ) → k ≢ n
    → finite.get (finite.insert sends n m) k ≡ finite.get sends k
get_other sends n m k h =
    finite.get-insert nat_cmp_total sends n m k
    ∙ ap (λ b. cond b (Some m) (finite.get sends k)) (no_tie k n h)

get_removed : (sends : Sends) (n k : ℕ) → k ≡ n → finite.get (finite.remove sends n) k ≡ None
get_removed sends n k h =
    finite.get-remove nat_cmp_total sends n k ∙ ap (λ b. cond b None (finite.get sends k)) (tie k n h)

get_kept : (sends : Sends) (n k : ℕ) → k ≢ n → finite.get (finite.remove sends n) k ≡ finite.get sends k
get_kept sends n k h =
    finite.get-remove nat_cmp_total sends n k ∙ ap (λ b. cond b None (finite.get sends k)) (no_tie k n h)

none_some : {A : Type 0} {x : A} → ◌≡◌ {A = Option A} None (Some x) → ⊥
none_some h = absurd (cc)

-- ---- a log with one entry more

-- the word of the entry more
abbrev next_word : List Logged → Logged → ℕ
next_word log l = word_of l.skipped (span log + 1 + l.skipped)

sent_more : (log : List Logged) (l : Logged) (k : ℕ) (m : SentMessage) → IsSentAt log k m
    → IsSentAt (log ++ l ∷ []) k m
unfolding entry_stays
sent_more log l k m h = record {
  body = h.body;
  skipped = h.skipped;
  number = h.number;
  there = entry_stays log l h.number (record { skipped = h.skipped; entry = Send m.to h.body }) h.there;
  is_word = h.is_word;
  digest = h.digest;
  before = h.before;
}

sent_last : (log : List Logged) (skipped to : ℕ) (body : List ℕ) (k : ℕ)
    → k ≡ next_word log (record { skipped = skipped; entry = Send to body })
    → IsSentAt (log ++ record { skipped = skipped; entry = Send to body } ∷ []) k
    (sent_message to (log_hash log) body)
unfolding last_entry
sent_last log skipped to body k h = record {
  body = body;
  skipped = skipped;
  number = span log + 1 + skipped;
  there = last_entry log (record { skipped = skipped; entry = Send to body });
  is_word = h;
  digest = refl;
  before = refl;
}

-- the entry more sends a message
record IsNew (log : List Logged) (l : Logged) (k : ℕ) (m : SentMessage) : Type 0 where
  is_word : k ≡ next_word log l
  body : List ℕ
  is : l.entry ≡ Send m.to body
  digest : m.body_hash ≡ sha256 body
  before : m.prev ≡ log_hash log

sent_less : (log : List Logged) (l : Logged) (k : ℕ) (m : SentMessage) → IsSentAt (log ++ l ∷ []) k m
    → IsSentAt log k m ⊎ IsNew log l k m
sent_less log l k m h = by (parts_of_more log l h.there.before sent h.there.rest h.there.whole)
  where
    sent : Logged
    sent = record { skipped = h.skipped; entry = Send m.to h.body }

    by : ((others : List Logged) × (log ≡ h.there.before ++ sent ∷ others))
        ⊎ ((h.there.before ≡ log) × (l ≡ sent))
        → IsSentAt log k m ⊎ IsNew log l k m
    by (inl old) = inl (record {
      body = h.body;
      skipped = h.skipped;
      number = h.number;
      there = record { before = h.there.before; rest = old.0; whole = old.1; place = h.there.place };
      is_word = h.is_word;
      digest = h.digest;
      before = h.before;
    })
    by (inr new) = inr (record {
      is_word = h.is_word ∙ ap (word_of h.skipped) (sym h.there.place)
          ∙ ap₂ (λ ls (x : Logged). word_of x.skipped (span ls + 1 + x.skipped)) new.0 (sym new.1);
      body = h.body;
      is = ap (λ (x : Logged). x.entry) new.1;
      digest = h.digest;
      before = h.before ∙ ap log_hash new.0;
    })

-- the entry isn't an ACK of the message under a word
abbrev IsNoAckOf : Entry → ℕ → Type 0
IsNoAckOf e k =
    (to : ℕ) (mine : List ℕ) (number : ℕ) (prev : List ℕ) (signature : SignatureParts)
    → e ≢ Ack to k mine number prev signature

-- what stands in the longer log stood in the log, or is the entry more
logged_less : (log : List Logged) (l : Logged) (place : ℕ) (x : Entry)
    → entry_at (entries_of (log ++ l ∷ [])) place ≡ Some x
    → (entry_at (entries_of log) place ≡ Some x) ⊎ (l.entry ≡ x)
logged_less log l place x there =
    by (entry_less (entries_of log) l.entry place x
    (subst (λ es. entry_at es place ≡ Some x) (one_entry_more log l) there))
  where
    by : (entry_at (entries_of log) place ≡ Some x) ⊎ ((place ≡ length (entries_of log) + 1) × (l.entry ≡ x))
        → (entry_at (entries_of log) place ≡ Some x) ⊎ (l.entry ≡ x)
    by (inl old) = inl old
    by (inr new) = inr new.1

no_ack_more : (log : List Logged) (l : Logged) (k : ℕ) → HasNoAck (entries_of log) k → IsNoAckOf l.entry k
    → HasNoAck (entries_of (log ++ l ∷ [])) k
no_ack_more log l k h not place to mine number prev signature there =
    by (logged_less log l place (Ack to k mine number prev signature) there)
  where
    by : (entry_at (entries_of log) place ≡ Some (Ack to k mine number prev signature))
        ⊎ (l.entry ≡ Ack to k mine number prev signature) → ⊥
    by (inl old) = h place to mine number prev signature old
    by (inr new) = not to mine number prev signature new

no_ack_less : (log : List Logged) (l : Logged) (k : ℕ) → HasNoAck (entries_of (log ++ l ∷ [])) k
    → HasNoAck (entries_of log) k
no_ack_less log l k h place to mine number prev signature there =
    h place to mine number prev signature
    (subst (λ es. entry_at es place ≡ Some (Ack to k mine number prev signature)) (sym (one_entry_more log l))
    (entry_more (entries_of log) l.entry place (Ack to k mine number prev signature) there))

-- ---- what is carried along

-- Messages sent are those of SENDs without an ACK; each ACK is of a message that a SEND of the log sent.
record AreLogged (log : List Logged) (s : State) : Type 0 where
  from : (k : ℕ) (m : SentMessage) → finite.get s.sends k ≡ Some m
      → IsSentAt log k m × HasNoAck (entries_of log) k
  all : (k : ℕ) (m : SentMessage) → IsSentAt log k m → HasNoAck (entries_of log) k
      → finite.get s.sends k ≡ Some m
  acked : (place to k : ℕ) (mine : List ℕ) (number : ℕ) (prev : List ℕ) (signature : SignatureParts)
      → entry_at (entries_of log) place ≡ Some (Ack to k mine number prev signature)
      → (m : SentMessage) × IsSentAt log k m

nothing_there : (k : ℕ) (e : Entry) → entry_at [] k ≡ Some e → ⊥
nothing_there k e h = let within = entry_within [] k e h in omega (arith, within.0, within.1)

nothing_sent : (k : ℕ) (m : SentMessage) → IsSentAt [] k m → ⊥
nothing_sent k m h = by h.there.before h.there.whole
  where
    by : (before : List Logged)
        → [] ≡ before ++ record { skipped = h.skipped; entry = Send m.to h.body } ∷ h.there.rest → ⊥
    by [] e = absurd cc
    by (x ∷ before) e = absurd cc

are_logged_start : (o : State) → o.sends ≡ finite.empty → AreLogged [] o
are_logged_start o none = record {
  from = λ k m h.
      absurd (none_some (sym (finite.get-empty nat_cmp k) ∙ sym (ap (λ x. finite.get x k) none) ∙ h));
  all = λ k m h n. absurd (nothing_sent k m h);
  acked = λ place to k mine number prev signature h.
      absurd (nothing_there place (Ack to k mine number prev signature) h);
}

-- an entry that is no ACK leaves the ACKs as they were
acked_more : (log : List Logged) (l : Logged) (s : State) → AreLogged log s → ((k : ℕ) → IsNoAckOf l.entry k)
    → (place to k : ℕ) (mine : List ℕ) (number : ℕ) (prev : List ℕ) (signature : SignatureParts)
    → entry_at (entries_of (log ++ l ∷ [])) place ≡ Some (Ack to k mine number prev signature)
    → (m : SentMessage) × IsSentAt (log ++ l ∷ []) k m
acked_more log l s i not place to k mine number prev signature there =
    by (logged_less log l place (Ack to k mine number prev signature) there)
  where
    by : (entry_at (entries_of log) place ≡ Some (Ack to k mine number prev signature))
        ⊎ (l.entry ≡ Ack to k mine number prev signature)
        → (m : SentMessage) × IsSentAt (log ++ l ∷ []) k m
    by (inl old) =
        let sent = i.acked place to k mine number prev signature old in
        (sent.0, sent_more log l k sent.0 sent.1)
    by (inr new) = absurd (not k to mine number prev signature new)

-- ---- an entry that neither sends nor acknowledges

same_sends : (log : List Logged) (l : Logged) (s t : State) → AreLogged log s → t.sends ≡ s.sends
    → ((to : ℕ) (body : List ℕ) → l.entry ≢ Send to body) → ((k : ℕ) → IsNoAckOf l.entry k)
    → AreLogged (log ++ l ∷ []) t
same_sends log l s t i same no_send no_ack = record {
  from = λ k m h.
      let old = i.from k m (sym (ap (λ x. finite.get x k) same) ∙ h) in
      (sent_more log l k m old.0, no_ack_more log l k old.1 (no_ack k));
  all = λ k m h n. ap (λ x. finite.get x k) same ∙ by k m n (sent_less log l k m h);
  acked = acked_more log l s i no_ack;
}
  where
    by : (k : ℕ) (m : SentMessage) → HasNoAck (entries_of (log ++ l ∷ [])) k
        → IsSentAt log k m ⊎ IsNew log l k m → finite.get s.sends k ≡ Some m
    by k m n (inl old) = i.all k m old (no_ack_less log l k n)
    by k m n (inr new) = absurd (no_send m.to new.body new.is)

-- ---- SEND

send_same : (a b : ℕ) (x y : List ℕ) → Send a x ≡ Send b y → (a ≡ b) × (x ≡ y)
send_same a b x y h = (cc, cc)

send_no_ack : (to : ℕ) (body : List ℕ) (k : ℕ) → IsNoAckOf (Send to body) k
send_no_ack to body k whom mine number prev signature h = absurd (cc)

module _ (v : LogVersion) (log : List Logged) (skipped to : ℕ) (body : List ℕ) (s t : State)
    (has : HasNumbers v (log ++ record { skipped = skipped; entry = Send to body } ∷ []))
    (i : AreLogged log s)
    (after : t.sends ≡ finite.insert s.sends (word_of skipped (span log + 1 + skipped))
    (sent_message to (log_hash log) body)) where
  abbrev sent : SentMessage
  sent = sent_message to (log_hash log) body

  abbrev send : Logged
  send = record { skipped = skipped; entry = Send to body }

  abbrev new_word : ℕ
  new_word = word_of skipped (span log + 1 + skipped)

  abbrev more : List Logged
  more = log ++ send ∷ []

  -- no message of the log was sent under the new word
  apart : (k : ℕ) (m : SentMessage) → IsSentAt log k m → k ≢ new_word
  apart k m old e =
      word_apart v log send old.number (record { skipped = old.skipped; entry = Send m.to old.body }) has old.there
      (sym old.is_word ∙ e)

  -- no ACK is of the new message
  none_yet : (k : ℕ) → k ≡ new_word → HasNoAck (entries_of log) k
  none_yet k h place whom mine number prev signature there =
      let old = i.acked place whom k mine number prev signature there in apart k old.0 old.1 h

  new_from : (k : ℕ) (m : SentMessage) → finite.get t.sends k ≡ Some m
      → IsSentAt more k m × HasNoAck (entries_of more) k
  new_from k m h = by (cases_eq k new_word)
    where
      by : (k ≡ new_word) ⊎ (k ≢ new_word) → IsSentAt more k m × HasNoAck (entries_of more) k
      by (inl last) =
          let same : sent ≡ m =
          same_Some _ _ (sym (get_new s.sends new_word sent k last)
          ∙ sym (ap (λ x. finite.get x k) after) ∙ h) in (
            subst (IsSentAt more k) same (sent_last log skipped to body k last),
            no_ack_more log send k (none_yet k last) (send_no_ack to body k),
          )
      by (inr other) =
          let old = i.from k m (sym (get_other s.sends new_word sent k other)
          ∙ sym (ap (λ x. finite.get x k) after) ∙ h) in (
            sent_more log send k m old.0,
            no_ack_more log send k old.1 (send_no_ack to body k),
          )

  new_all : (k : ℕ) (m : SentMessage) → IsSentAt more k m → HasNoAck (entries_of more) k
      → finite.get t.sends k ≡ Some m
  new_all k m h n = ap (λ x. finite.get x k) after ∙ by (sent_less log send k m h)
    where
      by : IsSentAt log k m ⊎ IsNew log send k m
          → finite.get (finite.insert s.sends new_word sent) k ≡ Some m
      by (inl old) =
          get_other s.sends new_word sent k (apart k m old) ∙ i.all k m old (no_ack_less log send k n)
      by (inr new) =
          let e = send_same to m.to body new.body new.is in
          let same : sent ≡ m =
          ap (λ x. record { to = x; prev = log_hash log; body_hash = sha256 body }) e.0
          ∙ ap (λ x. record { to = m.to; prev = x; body_hash = sha256 body }) (sym new.before)
          ∙ ap (λ x. record { to = m.to; prev = m.prev; body_hash = x })
          (ap sha256 e.1 ∙ sym new.digest) in
          get_new s.sends new_word sent k new.is_word ∙ ap (λ x. Some x) same

  new_logged : AreLogged more t
  new_logged = record {
    from = new_from;
    all = new_all;
    acked = acked_more log send s i (send_no_ack to body);
  }

-- ---- ACK

ack_same : (to whom seq k : ℕ) (mine own : List ℕ) (number place : ℕ) (prev before : List ℕ)
    (signature other : SignatureParts)
    → Ack to seq mine number prev signature ≡ Ack whom k own place before other → seq ≡ k
ack_same to whom seq k mine own number place prev before signature other h = cc

ack_no_send : (to seq : ℕ) (mine : List ℕ) (number : ℕ) (prev : List ℕ) (signature : SignatureParts)
    → (whom : ℕ) (body : List ℕ) → Ack to seq mine number prev signature ≢ Send whom body
ack_no_send to seq mine number prev signature whom body h = absurd (cc)

module _ (log : List Logged) (skipped to seq : ℕ) (mine : List ℕ) (number : ℕ) (prev : List ℕ)
    (signature : SignatureParts) (s t : State) (i : AreLogged log s)
    (after : t.sends ≡ finite.remove s.sends seq)
    (message : SentMessage) (sent : finite.get s.sends seq ≡ Some message) where
  abbrev ack : Logged
  ack = record { skipped = skipped; entry = Ack to seq mine number prev signature }

  abbrev acks : List Logged
  acks = log ++ ack ∷ []

  -- it is of no other message
  ack_of_one : (k : ℕ) → k ≢ seq → IsNoAckOf ack.entry k
  ack_of_one k other whom own place before sign e =
      other (sym (ack_same to whom seq k mine own number place prev before signature sign e))

  ack_from : (k : ℕ) (m : SentMessage) → finite.get t.sends k ≡ Some m
      → IsSentAt acks k m × HasNoAck (entries_of acks) k
  ack_from k m h = by (cases_eq k seq)
    where
      by : (k ≡ seq) ⊎ (k ≢ seq) → IsSentAt acks k m × HasNoAck (entries_of acks) k
      by (inl same) =
          absurd (none_some (sym (get_removed s.sends seq k same) ∙ sym (ap (λ x. finite.get x k) after) ∙ h))
      by (inr other) =
          let old = i.from k m (sym (get_kept s.sends seq k other)
          ∙ sym (ap (λ x. finite.get x k) after) ∙ h) in
          (sent_more log ack k m old.0, no_ack_more log ack k old.1 (ack_of_one k other))

  -- the new ACK stands in the log
  stands : entry_at (entries_of acks) (length (entries_of log) + 1)
      ≡ Some (Ack to seq mine number prev signature)
  stands =
      ap (λ es. entry_at es (length (entries_of log) + 1)) (one_entry_more log ack)
      ∙ entry_last (entries_of log) ack.entry (length (entries_of log) + 1) refl

  ack_all : (k : ℕ) (m : SentMessage) → IsSentAt acks k m → HasNoAck (entries_of acks) k
      → finite.get t.sends k ≡ Some m
  ack_all k m h n = ap (λ x. finite.get x k) after ∙ by (sent_less log ack k m h)
    where
      other : k ≢ seq
      other e =
          n (length (entries_of log) + 1) to mine number prev signature
          (stands ∙ ap (λ x. Some (Ack to x mine number prev signature)) (sym e))

      by : IsSentAt log k m ⊎ IsNew log ack k m → finite.get (finite.remove s.sends seq) k ≡ Some m
      by (inl old) = get_kept s.sends seq k other ∙ i.all k m old (no_ack_less log ack k n)
      by (inr new) = absurd (ack_no_send to seq mine number prev signature m.to new.body new.is)

  ack_acked : (place whom k : ℕ) (own : List ℕ) (theirs : ℕ) (before : List ℕ) (sign : SignatureParts)
      → entry_at (entries_of acks) place ≡ Some (Ack whom k own theirs before sign)
      → (m : SentMessage) × IsSentAt acks k m
  ack_acked place whom k own theirs before sign there =
      by (logged_less log ack place (Ack whom k own theirs before sign) there)
    where
      by : (entry_at (entries_of log) place ≡ Some (Ack whom k own theirs before sign))
          ⊎ (ack.entry ≡ Ack whom k own theirs before sign) → (m : SentMessage) × IsSentAt acks k m
      by (inl old) =
          let was = i.acked place whom k own theirs before sign old in
          (was.0, sent_more log ack k was.0 was.1)
      by (inr new) =
          let same : seq ≡ k =
          ack_same to whom seq k mine own number theirs prev before signature sign new in (
            message,
            subst (λ n. IsSentAt acks n message) same
                (sent_more log ack seq message (i.from seq message sent).0),
          )

  ack_logged : AreLogged acks t
  ack_logged = record { from = ack_from; all = ack_all; acked = ack_acked }

-- ---- each entry

are_logged_by : (v : LogVersion) (log : List Logged) (skipped : ℕ) (e : Entry) (ms : List Member) (s t : State)
    → HasNumbers v (log ++ record { skipped = skipped; entry = e } ∷ []) → AreLogged log s → MayStand ms s e
    → t ≡ after_entry s (word_of skipped (span log + 1 + skipped)) (log_hash log) e
    → AreLogged (log ++ record { skipped = skipped; entry = e } ∷ []) t
are_logged_by v log skipped (Send to body) ms s t has i h after =
    new_logged v log skipped to body s t has i (ap (λ (x : State). x.sends) after)
are_logged_by v log skipped (Recv from seq prev body signature) ms s t has i h after =
    same_sends log (record { skipped = skipped; entry = Recv from seq prev body signature }) s t i
    (ap (λ (x : State). x.sends) after)
    (λ to sent e. absurd (cc)) (λ k to mine number before sign e. absurd (cc))
are_logged_by v log skipped (Ack to seq mine number prev signature) ms s t has i h after =
    ack_logged log skipped to seq mine number prev signature s t i (ap (λ (x : State). x.sends) after) h.message
    h.sent
are_logged_by v log skipped (Clock seconds microseconds) ms s t has i h after =
    same_sends log (record { skipped = skipped; entry = Clock seconds microseconds }) s t i
    (ap (λ (x : State). x.sends) after)
    (λ to sent e. absurd (cc)) (λ k to mine number before sign e. absurd (cc))
are_logged_by v log skipped (Check digest) ms s t has i h after =
    same_sends log (record { skipped = skipped; entry = Check digest }) s t i (ap (λ (x : State). x.sends) after)
    (λ to sent e. absurd (cc)) (λ k to mine number before sign e. absurd (cc))

are_logged : (v : LogVersion) (ms : List Member) (o : State) → o.sends ≡ finite.empty → (log : List Logged)
    (s : State) → HasNumbers v log → IsHonestLog ms o log s → AreLogged log s
are_logged v ms o none log s has h =
    carried ms o (λ log s. HasNumbers v log → AreLogged log s) (λ begins. are_logged_start o none)
    (λ log l s t i k more.
    are_logged_by v log l.skipped l.entry ms s t more (i (numbers_front v log l more)) k.stands k.after)
    log s h has

-- the messages that were sent in the last state of a log from a state without messages
pub sends_are_logged : (v : LogVersion) (ms : List Member) (node : ℕ) (machine : Machine) (s : State)
    (log : List Logged) (k : ℕ) (m : SentMessage) → HasNumbers v log
    → IsHonestLog ms (opened_with node machine) log s
    → ((finite.get s.sends k ≡ Some m) → (IsSentAt log k m × HasNoAck (entries_of log) k))
    × ((IsSentAt log k m × HasNoAck (entries_of log) k) → (finite.get s.sends k ≡ Some m))
sends_are_logged v ms node machine s log k m has h =
    let i = are_logged v ms (opened_with node machine) refl log s has h in
    (i.from k m, λ x. i.all k m x.0 x.1)
