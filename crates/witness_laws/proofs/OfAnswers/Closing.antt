-- A segment that was accepted closes the audit and each challenge with a message whose RECV it has.
-- Serves: answers_close_challenges.
use Rattle.std.proofs.Common.{◌≡◌, inl, inr, ℕ, Bool, true, false, cond, not, ◌==◌, ◌&&◌, ◌||◌, List}
use Rattle.std.proofs.Common.{[], ◌∷◌, ◌++◌, filter, map, Ok, refl, sym, ap, ap₂, subst, ◌∙◌, eq-eqb}
use Rattle.std.proofs.Common.{eqb-true}
use Rattle.std.specs.List.{list_any}
use Rattle.std.proofs.lemmas.Bool.{and_parts, or_left, or_right, true≢false}
use Rattle.authenticator.specs.Signing.{is_same}
use Rattle.authenticator.proofs.Signed.{same_list}
use Rattle.secure_log.specs.declared.log_entries.entry.Entry.{Entry}
use Rattle.secure_log.specs.declared.log_entries.entry.Entry.TheVariants as entries
use Rattle.secure_log.specs.Versioned.{VersionedParts, ClosedParts}
use Rattle.envelopes.specs.Envelope.{envelope_message}
use Rattle.envelopes.specs.declared.envelope.Envelope.{Envelope}
use Rattle.envelopes.specs.declared.message.Message.{Message}
use Rattle.secure_log.specs.LogEntries.Chain.{IsAmong, Logged}
use Rattle.witness_spec.specs.Events as events
use Rattle.witness_spec.specs.Replies.{Accepted, Challenge, AuditOf, SendOf}
use Rattle.witness_spec.specs.Watched.{Watched}
use Rattle.witness_spec.specs.Steps.{Answer}
use Rattle.witness_spec.specs.Whose.{whose}
use Rattle.witness_spec.specs.Standing.{same_message, is_recv_of, is_answered, open_challenges}
use Rattle.witness_spec.specs.Histories.{History, own_of}
use Rattle.witness_spec.specs.Laws.{HasRecv, ClosesWhatItAnswers}
use Rattle.witness_laws.proofs.OwnSteps.{its_own}
use Rattle.witness_laws.proofs.OfAnswers.Answering.{passes, message_same}

-- ---- lists

-- what is left of a list was in it
pub was_among : {A : Type 0} (test : A → Bool) (x : A) (xs : List A) → IsAmong x (filter test xs) → IsAmong x xs
was_among test x [] i = absurd i
was_among test x (y ∷ ys) i = by (test y) i (λ j. was_among test x ys j)
  where
    by : (b : Bool) → IsAmong x (cond b (y ∷ filter test ys) (filter test ys))
        → (IsAmong x (filter test ys) → IsAmong x ys) → IsAmong x (y ∷ ys)
    by true (inl same) rest = inl same
    by true (inr j) rest = inr (rest j)
    by false j rest = inr (rest j)

-- what passes the test is left
pub is_left : {A : Type 0} (test : A → Bool) (x : A) (xs : List A) → test x ≡ true → IsAmong x xs
    → IsAmong x (filter test xs)
is_left test x [] pass i = absurd i
is_left test x (y ∷ ys) pass i = by (test y) refl i (λ j. is_left test x ys pass j)
  where
    by : (b : Bool) → test y ≡ b → IsAmong x (y ∷ ys) → (IsAmong x ys → IsAmong x (filter test ys))
        → IsAmong x (cond b (y ∷ filter test ys) (filter test ys))
    by true e (inl same) rest = inl same
    by true e (inr j) rest = inr (rest j)
    by false e (inl same) rest = absurd (true≢false (sym pass ∙ (ap test same ∙ e)))
    by false e (inr j) rest = rest j

-- ---- messages

-- messages that pass the test of being the same are
same_is : (x y : Message) → same_message x y ≡ true → x ≡ y
same_is x y h =
    let one = and_parts (x.from == y.from) ((x.seq == y.seq) && is_same x.hash y.hash) h in
    let two = and_parts (x.seq == y.seq) (is_same x.hash y.hash) one.1 in
    ap (λ n. record x { from = n }) (eqb-true x.from y.from one.0)
    ∙ ap₂ (λ n h. record y { seq = n; hash = h }) (eqb-true x.seq y.seq two.0)
    (same_list x.hash y.hash two.1)

module _ (s : VersionedParts) (message : Message) where
  -- the segment with other entries
  abbrev with_entries : List Logged → VersionedParts
  with_entries ls = record s { entries = ls }

  -- whether an entry of a log is a RECV of the message
  abbrev is_recv : Logged → Bool
  is_recv l = is_recv_of s.node message l.entry

  -- a RECV further on is one of the segment
  further : (l : Logged) (ls : List Logged) → HasRecv (with_entries ls) message
      → HasRecv (with_entries (l ∷ ls)) message
  further l ls r = record {
    from = r.from;
    seq = r.seq;
    prev = r.prev;
    body = r.body;
    signature = r.signature;
    among = inr r.among;
    is = r.is;
  }

  -- an entry that passes the test is a RECV of the message
  found_here : (l : Logged) (ls : List Logged) (e : Entry) → l.entry ≡ e → is_recv_of s.node message e ≡ true
      → HasRecv (with_entries (l ∷ ls)) message
  found_here l ls (entries.Send to body) is h = absurd (true≢false (sym h))
  found_here l ls (entries.Recv from seq prev body signature) is h = record {
    from = from;
    seq = seq;
    prev = prev;
    body = body;
    signature = signature;
    among = inl (sym is);
    is = same_is message _ h;
  }
  found_here l ls (entries.Ack to seq mine number prev signature) is h = absurd (true≢false (sym h))
  found_here l ls (entries.Clock seconds microseconds) is h = absurd (true≢false (sym h))
  found_here l ls (entries.Check digest) is h = absurd (true≢false (sym h))

  -- where the test finds one, there is one
  found : (ls : List Logged) → list_any is_recv ls ≡ true → HasRecv (with_entries ls) message
  found [] h = absurd (true≢false (sym h))
  found (l ∷ ls) h = by (is_recv l) refl h (found ls)
    where
      by : (b : Bool) → is_recv l ≡ b → (b || list_any is_recv ls) ≡ true
          → (list_any is_recv ls ≡ true → HasRecv (with_entries ls) message)
          → HasRecv (with_entries (l ∷ ls)) message
      by true e h rest = found_here l ls l.entry refl e
      by false e h rest = further l ls (rest h)

  -- and where there is one, the test finds it
  finds : (e : Entry) (ls : List Logged) → is_recv_of s.node message e ≡ true
      → IsAmong e (map (λ (l : Logged). l.entry) ls) → list_any is_recv ls ≡ true
  finds e [] h i = absurd i
  finds e (l ∷ ls) h (inl same) =
      or_left (is_recv l) (list_any is_recv ls) (ap (is_recv_of s.node message) (sym same) ∙ h)
  finds e (l ∷ ls) h (inr i) = or_right (is_recv l) (list_any is_recv ls) (finds e ls h i)

  -- a RECV of the message is found
  answered : HasRecv s message → list_any is_recv s.entries ≡ true
  answered r =
      finds (entries.Recv r.from r.seq r.prev r.body r.signature) s.entries
      (message_same message _ r.is) r.among

-- ---- challenges

-- a test and its negation don't both pass
pub not_true : (b : Bool) → not b ≡ true → b ≡ true → ⊥
not_true true h e = true≢false (sym h)
not_true false h e = true≢false (sym e)

true_not : (b : Bool) → ¬ (b ≡ true) → not b ≡ true
true_not true h = absurd (h refl)
true_not false h = refl

module _ (w : Watched) (history : History) (c : ClosedParts)
    (its : whose w.roster (events.Answer c) ≡ Ok (record { member = w.member; step = Answer c })) where
  -- what is open before the answer
  abbrev before : List Challenge
  before = open_challenges (own_of w history)

  -- what is open after it
  after_is : open_challenges (own_of w ((events.Answer c, Accepted) ∷ history))
      ≡ filter (λ x. not (is_answered c.segment x)) before
  after_is = ap (λ x. open_challenges (x ++ own_of w history))
      (its_own w.roster w.member.node (events.Answer c) Accepted
      (record { member = w.member; step = Answer c }) its
      (eq-eqb w.member.node w.member.node refl) refl)

  no_audit : (first last : ℕ)
      → ¬ IsAmong (AuditOf first last)
      (open_challenges (own_of w ((events.Answer c, Accepted) ∷ history)))
  no_audit first last i =
      true≢false (sym (passes (λ x. not (is_answered c.segment x)) (AuditOf first last) before
      (subst (IsAmong (AuditOf first last)) after_is i)))

  -- a challenge that is open after it was open before, and its message isn't answered
  still_open : (e : Envelope)
      → IsAmong (SendOf e) (open_challenges (own_of w ((events.Answer c, Accepted) ∷ history)))
      → IsAmong (SendOf e) before × ¬ HasRecv c.segment (envelope_message e)
  still_open e i =
      let left : IsAmong (SendOf e) (filter (λ x. not (is_answered c.segment x)) before) =
      subst (IsAmong (SendOf e)) after_is i in (
        was_among (λ x. not (is_answered c.segment x)) (SendOf e) before left,
        λ r. not_true (is_answered c.segment (SendOf e))
            (passes (λ x. not (is_answered c.segment x)) (SendOf e) before left)
            (answered c.segment (envelope_message e) r),
      )

  stays_open : (e : Envelope) → IsAmong (SendOf e) before × ¬ HasRecv c.segment (envelope_message e)
      → IsAmong (SendOf e) (open_challenges (own_of w ((events.Answer c, Accepted) ∷ history)))
  stays_open e h =
      subst (IsAmong (SendOf e)) (sym after_is)
      (is_left (λ x. not (is_answered c.segment x)) (SendOf e) before
      (true_not (is_answered c.segment (SendOf e))
      (λ t. h.1 (found c.segment (envelope_message e) c.segment.entries t))) h.0)

  -- a segment that was accepted closes the audit, and the challenges whose RECV it has, and no others
  pub closes : ClosesWhatItAnswers w history c
  closes = record { audits = no_audit; sends = λ e. (still_open e, stays_open e) }
