-- Answers are their node's steps, and close what is open.
-- Serves: answers_are_accepted, acknowledgements_close, answers_close_challenges.
use Rattle.std.proofs.Common.{◌≡◌, ◌↔◌, inl, inr, ℕ, ◌+◌, ◌-◌, ◌<◌, Bool, true, false, cond, not, ◌==◌, ◌&&◌}
use Rattle.std.proofs.Common.{List, [], ◌∷◌, ◌++◌, length, filter, IsSomeAnd, Some, Ok, Err}
use Rattle.std.proofs.Common.{refl, sym, ap, ap₂, subst, ◌∙◌, append_assoc, eq-eqb, arith}
use Rattle.std.specs.List.{AllByRecursion}
use Rattle.std.proofs.lemmas.Bool.{and_from, or_left, or_right, true≢false}
use Rattle.authenticator.specs.Roster.{member_of, is_of_version, kind_number, log_number, same_version}
use Rattle.authenticator.specs.Signed.{IsSignedBy}
use Rattle.authenticator.specs.declared.authenticator.Authenticator.{Authenticator}
use Rattle.authenticator.specs.declared.member.Member.{Member}
use Rattle.secure_log.specs.LogEntries.Chain.{IsAmong, Logged, last_hash, span, zeros}
use Rattle.secure_log.specs.LogEntries.Words.{MaySkip}
use Rattle.secure_log.specs.Log.{LogParts, IsOfPlace, hash_at, log_hash, log_pairs}
use Rattle.secure_log.specs.Part.{GivesPart, HasPlaces, IsPart, open_entries, open_links}
use Rattle.secure_log.specs.Versioned.{ClosedParts, EndsIn, IsClosedIn}
use Rattle.secure_log.specs.declared.open.OpenSegment.{OpenSegment}
use Rattle.secure_log.proofs.Gaps.{closing_number}
use Rattle.secure_log.proofs.OfLogEntries.Pairs.{at_place, last_number_is, span-append}
use Rattle.secure_log.proofs.Parts.{closed_at_its_last, part_end}
use Rattle.secure_log.proofs.Places.{each_place}
use Rattle.envelopes.specs.Envelope.{envelope_message}
use Rattle.envelopes.specs.Acknowledgement.{acked_message}
use Rattle.envelopes.specs.declared.envelope.Envelope.{Envelope}
use Rattle.envelopes.specs.declared.acknowledgement.Ack.{Ack}
use Rattle.envelopes.specs.declared.message.Message.{Message}
use Rattle.authenticator.specs.Signing.{is_same}
use Rattle.authenticator.proofs.Signed.{list_same}
use Rattle.witness_spec.specs.Refusals.{NotAsked, BadSignature}
use Rattle.witness_spec.specs.Events.{PublicKey, Event}
use Rattle.witness_spec.specs.Events as events
use Rattle.witness_spec.specs.Replies.{Reply, Accepted, Closed, Refused, Challenge, AuditOf, SendOf}
use Rattle.witness_spec.specs.Starting.{Beginning}
use Rattle.witness_spec.specs.Watched.{Watched, IsInRoster, IsWatchedFrom}
use Rattle.witness_spec.specs.Steps.{Step, Answer, AckIn}
use Rattle.witness_spec.specs.Whose.{is_key_of, same_member, same_roster, signed_step, closed_step, whose}
use Rattle.witness_spec.specs.Standing.{Stage, Wanted, stage_of, same_message, is_answered, is_send_of}
use Rattle.witness_spec.specs.Standing.{open_challenges}
use Rattle.witness_spec.specs.Owing.{reply_told, answer_reply, is_open, IsOut, Owes}
use Rattle.witness_spec.specs.Histories.{History, IsOwed, own_of}
use Rattle.witness_spec.specs.Laws.{AnswersAudit, answer_of, ClosesChallenge}
use Rattle.witness_spec.specs.Pairs.{last_of}
use Rattle.witness_laws.proofs.Replied.{one_reply}
use Rattle.witness_laws.proofs.OwnSteps.{its_own, owed_own}

-- ---- lists

-- what is left of a list passes the test
pub passes : {A : Type 0} (test : A → Bool) (x : A) (xs : List A) → IsAmong x (filter test xs) → test x ≡ true
passes test x [] i = absurd i
passes test x (y ∷ ys) i = by (test y) refl i (λ j. passes test x ys j)
  where
    by : (b : Bool) → test y ≡ b → IsAmong x (cond b (y ∷ filter test ys) (filter test ys))
        → (IsAmong x (filter test ys) → test x ≡ true) → test x ≡ true
    by true e (inl same) rest = ap test same ∙ e
    by true e (inr j) rest = rest j
    by false e j rest = rest j

-- a message is the same as itself
pub message_same : (x y : Message) → x ≡ y → same_message x y ≡ true
message_same x y e =
    ap (same_message x) (sym e)
    ∙ and_from (x.from == x.from) ((x.seq == x.seq) && is_same x.hash x.hash) (eq-eqb x.from x.from refl)
    (and_from (x.seq == x.seq) (is_same x.hash x.hash) (eq-eqb x.seq x.seq refl)
    (list_same x.hash x.hash refl))

open_of : (message : Message) (e : Envelope) (xs : List Challenge) → IsAmong (SendOf e) xs
    → message ≡ envelope_message e → is_open message xs ≡ true
open_of message e [] i same = absurd i
open_of message e (x ∷ xs) (inl is) same =
    or_left (is_send_of message x) (is_open message xs)
    (ap (is_send_of message) (sym is) ∙ message_same message (envelope_message e) same)
open_of message e (x ∷ xs) (inr i) same =
    or_right (is_send_of message x) (is_open message xs) (open_of message e xs i same)

-- ---- whose they are

-- a member is the same as itself
pub member_self : (m : Member) → same_member m m ≡ true
member_self m =
    let last = (m.height == m.height) && same_version m.log_version m.log_version in
    and_from (m.node == m.node) ((kind_number m.kind == kind_number m.kind) && (is_same m.root m.root && last))
    (eq-eqb m.node m.node refl)
    (and_from (kind_number m.kind == kind_number m.kind) (is_same m.root m.root && last)
    (eq-eqb (kind_number m.kind) (kind_number m.kind) refl)
    (and_from (is_same m.root m.root) last (list_same m.root m.root refl)
    (and_from (m.height == m.height) (same_version m.log_version m.log_version)
    (eq-eqb m.height m.height refl)
    (eq-eqb (log_number m.log_version) (log_number m.log_version) refl))))

-- a roster is the same as itself
pub roster_self : (ms : List Member) → same_roster ms ms ≡ true
roster_self [] = refl
roster_self (m ∷ ms) = and_from (same_member m m) (same_roster ms ms) (member_self m) (roster_self ms)

-- ---- the reply

-- a step that brings no job back has this reply and no other
pub only_reply : (g : Beginning) (w : Watched) (history : History) (e : Event) (step : Step) (good : Reply)
    → IsWatchedFrom g w → whose w.roster e ≡ Ok (record { member = w.member; step = step })
    → (IsOut w (own_of w history) step → ⊥)
    → good ≡ reply_told false w (own_of w history) step
    → (reply : Reply) → IsOwed g history e reply ↔ (reply ≡ good)
only_reply g w history e step good from its none told reply =
    let here : Owes w (own_of w history) step good = record {
      is_out = false;
      decides = (λ h. absurd (true≢false (sym h)), λ h. absurd (none h));
      told = told;
    } in
    let own = owed_own g w history e step reply from its in (
      λ h. one_reply w (own_of w history) step reply good (own.0 h) here,
      λ same. own.1 (subst (Owes w (own_of w history) step) (sym same) here),
    )

-- ---- answers

-- a part has some entry
some_entries : (log : LogParts) (from to : ℕ) (s : OpenSegment) → HasPlaces log from to → IsPart log from to s
    → 0 < length (open_entries s)
some_entries log from to s places part =
    let p = part.part in by (open_entries s) (omega (arith, places.order, p.place, p.count))
  where
    by : (ls : List Logged) → 0 < span ls → 0 < length ls
    by [] some = absurd (omega (arith, some))
    by (l ∷ ls) some = omega arith

-- at its last number the log has the hash after its links
pub part_hash : (log : LogParts) (from to : ℕ) (s : OpenSegment) → IsPart log from to s
    → hash_at log.entries to ≡ Some (last_hash s.opening (open_links s))
part_hash log from to s part =
    let p = part.part in
    let own = open_entries s in
    let front : List Logged = p.before ++ own in
    let whole : log.entries ≡ front ++ p.rest = p.whole ∙ sym (append_assoc p.before own p.rest) in
    let number : 0 + span front ≡ to = omega (arith, span-append p.before own, p.count) in
    let there : IsAmong (to, log_hash front) (log_pairs log.entries) =
    subst (λ ls. IsAmong (to, log_hash front) (log_pairs ls)) (sym whole)
    (subst (λ n. IsAmong (n, log_hash front) (log_pairs (front ++ p.rest))) number
    (at_place 0 zeros front p.rest)) in
    (each_place log.entries to (log_hash front)).1 there
    ∙ ap Some (sym (part_end log.entries from to s.first s.opening own p part.number part.opening))

answer_told : (stage : Stage) (c : ClosedParts) (first last : ℕ) → stage ≡ Wanted first last
    → c.segment.first ≡ first → last_of c.segment ≡ last → Accepted ≡ answer_reply stage c
answer_told stage c first last is e f =
    sym (ap (λ s. answer_reply s c) is
    ∙ ap (λ b. cond b Accepted (Refused NotAsked))
    (and_from (c.segment.first == first) (last_of c.segment == last)
    (eq-eqb c.segment.first first e) (eq-eqb (last_of c.segment) last f)))

module _ (g : Beginning) (w : Watched) (history : History) (is : IsInRoster w) (from : IsWatchedFrom g w) where
  answer_its : (c : ClosedParts) → c.roster ≡ w.roster → c.segment.closing.node ≡ w.member.node
      → whose w.roster (events.Answer c) ≡ Ok (record { member = w.member; step = Answer c })
  answer_its c roster node =
      ap₂ (λ x b. closed_step x b (Answer c)) (ap (member_of w.roster) node ∙ is.is_member)
      (ap (λ r. same_roster r w.roster) roster ∙ roster_self w.roster)

  answer_closes : (c : ClosedParts)
      → whose w.roster (events.Answer c) ≡ Ok (record { member = w.member; step = Answer c })
      → (first last : ℕ)
      → ¬ IsAmong (AuditOf first last)
      (open_challenges (own_of w ((events.Answer c, Accepted) ∷ history)))
  answer_closes c told first last i =
      let one =
      its_own w.roster w.member.node (events.Answer c) Accepted
      (record { member = w.member; step = Answer c }) told
      (eq-eqb w.member.node w.member.node refl) refl in
      true≢false (sym (passes (λ x. not (is_answered c.segment x)) (AuditOf first last)
      (open_challenges (own_of w history))
      (subst (λ x. IsAmong (AuditOf first last) (open_challenges (x ++ own_of w history))) one i)))

  -- the part of a log that an audit asked for, closed by the node's signature, answers the audit
  pub answers : (log : LogParts) (first last : ℕ) (s : OpenSegment) (closing : Authenticator)
      → log.node ≡ w.member.node → log.log_version ≡ w.member.log_version
      → stage_of (own_of w history) ≡ Wanted first last → GivesPart log first last (Ok s)
      → AllByRecursion (MaySkip s.log_version) (open_links s) → IsOfPlace log last closing
      → IsSignedBy w.member closing → AnswersAudit g w history (answer_of w.roster s closing)
  answers log first last s closing node version stage part may place signed =
      let c : ClosedParts = answer_of w.roster s closing in
      let p = part.2.part in
      let here : closing.node ≡ w.member.node = place.node ∙ node in
      let its = answer_its c refl here in
      let ends : EndsIn c.segment =
      (closed_at_its_last log first last s part.2 (some_entries log first last s part.0 part.2)
      (last_hash s.opening (open_links s)) (part_hash log first last s part.2) refl closing may).1 place in
      let number = closing_number s.log_version (s.first - 1) (open_links s) closing.word may ends.last in
      let up_to : last_of c.segment ≡ last =
      omega (arith, number, last_number_is (s.first - 1) (open_entries s), part.2.number, p.place, p.count) in
      let closed : IsClosedIn w.roster c.segment = record {
        version = ap (is_of_version s.log_version) (ap (member_of w.roster) (part.2.node ∙ node) ∙ is.is_member)
            ∙ eq-eqb (log_number w.member.log_version) (log_number s.log_version)
            (ap log_number (sym (part.2.version ∙ version)));
        ends = ends;
        signed = subst (λ x. IsSomeAnd x (λ n. IsSignedBy n closing))
            (sym (ap (member_of w.roster) here ∙ is.is_member)) signed;
      } in
      record {
        closed = closed;
        its = its;
        reply = only_reply g w history (events.Answer c) (Answer c) Accepted from its (λ h. h)
            (answer_told (stage_of (own_of w history)) c first last stage part.2.number up_to);
        closes = answer_closes c its;
      }

  -- ---- acknowledgements

  ack_its : (a : Ack) (key : PublicKey) → a.by ≡ w.member.node → is_key_of w.member key ≡ true
      → whose w.roster (events.AckIn a key) ≡ Ok (record { member = w.member; step = AckIn a })
  ack_its a key by key_is =
      ap (λ x. signed_step x key (AckIn a)) (ap (member_of w.roster) by ∙ is.is_member)
      ∙ ap (λ b. cond b (Ok (record { member = w.member; step = AckIn a })) (Err BadSignature)) key_is

  ack_closes : (a : Ack) (key : PublicKey)
      → whose w.roster (events.AckIn a key) ≡ Ok (record { member = w.member; step = AckIn a })
      → (e : Envelope) → envelope_message e ≡ acked_message a
      → ¬ IsAmong (SendOf e) (open_challenges (own_of w ((events.AckIn a key, Closed) ∷ history)))
  ack_closes a key told e same i =
      let one =
      its_own w.roster w.member.node (events.AckIn a key) Closed
      (record { member = w.member; step = AckIn a }) told
      (eq-eqb w.member.node w.member.node refl) refl in
      let left : not (is_send_of (acked_message a) (SendOf e)) ≡ true =
      passes (λ x. not (is_send_of (acked_message a) x)) (SendOf e) (open_challenges (own_of w history))
      (subst (λ x. IsAmong (SendOf e) (open_challenges (x ++ own_of w history))) one i) in
      true≢false (sym left
      ∙ ap not (message_same (acked_message a) (envelope_message e) (sym same)))

  -- an acknowledgement by the node of a message that it is challenged with closes the challenge
  pub acknowledges : (e : Envelope) (a : Ack) (key : PublicKey) → is_key_of w.member key ≡ true
      → a.by ≡ w.member.node
      → IsAmong (SendOf e) (open_challenges (own_of w history)) → acked_message a ≡ envelope_message e
      → ClosesChallenge g w history a key
  acknowledges e a key key_is by there same =
      let its = ack_its a key by key_is in
      record {
        its = its;
        reply = only_reply g w history (events.AckIn a key) (AckIn a) Closed from its (λ h. h)
            (sym (ap (λ b. cond b Closed (Refused NotAsked))
            (open_of (acked_message a) e (open_challenges (own_of w history)) there same)));
        closes = ack_closes a key its;
      }
