-- A step's reply is one, and its refusals are those of the table.
-- Serves: one_reply, own_steps_alone, left_out_changes_nothing.
use Rattle.std.proofs.Common.{◌≡◌, ℕ, ◌+◌, ◌-◌, Bool, true, false, cond, not, ◌&&◌, ◌==◌, nat_le, nat_lt, count_by}
use Rattle.std.proofs.Common.{List, [], ◌∷◌, Option, Some, None}
use Rattle.std.proofs.Common.{refl, sym, ap, ◌∙◌}
use Rattle.std.specs.Bool.{one_answer}
use Rattle.authenticator.specs.declared.authenticator.Authenticator.{Authenticator}
use Rattle.authenticator.specs.declared.member.LogVersion.{LogVersion}
use Rattle.secure_log.specs.Versioned.{ClosedParts}
use Rattle.witness_spec.specs.Refusals as refusals
use Rattle.witness_spec.specs.Events.{Event, JobParts, Question, ItsIndication, ItsChallenges, ItsEvidence}
use Rattle.witness_spec.specs.Events as events
use Rattle.witness_spec.specs.Replies.{Reply, Noted, Already, Opened, Accepted, Closed, Asked, Job, Filed}
use Rattle.witness_spec.specs.Replies.{Returned, Forwarded, Empty, Told, OpenList, EvidenceIs}
use Rattle.witness_spec.specs.Replies.{Refused, FileRefused, PutBackRefused, refused, is_want}
use Rattle.witness_spec.specs.Replies.{is_want_of_memory}
use Rattle.witness_spec.specs.Watched.{Watched}
use Rattle.witness_spec.specs.Steps.{Step, Learn, SendChallenge, Answer, AckIn, Audit, Begin, File, PutBack}
use Rattle.witness_spec.specs.Steps.{Forward, Ask, Past}
use Rattle.witness_spec.specs.Standing.{Stage, NoAudit, Wanted, Given, Out, stage_of, job_out}
use Rattle.witness_spec.specs.Standing.{open_challenges, outbox, kept, shown, is_exposed}
use Rattle.witness_spec.specs.Owing.{reply_told, ask, answer_reply, audit_reply, ask_reply, ask_up_to}
use Rattle.witness_spec.specs.Owing.{begin_reply}
use Rattle.witness_spec.specs.Owing.{back_reply, forward_reply, last_in_reach, has_no_room, is_send, is_open}
use Rattle.witness_spec.specs.Owing.{next_job, Owes}
use Rattle.witness_spec.specs.Limits.{MAX_CHALLENGES, MAX_OUTBOX}
use Rattle.witness_spec.specs.evidence_spec.Evidence.{MAX_AUDITED}
use Rattle.witness_spec.specs.Pairs.{pair_of, is_shown, last_of, number_of}
use Rattle.witness_spec.specs.Starting.{is_below}
use Rattle.envelopes.specs.Envelope.{envelope_message}
use Rattle.envelopes.specs.Acknowledgement.{acked_message}

-- ---- one reply

-- two replies that are owed to one step are one
pub one_reply : (w : Watched) (past : Past) (step : Step) (one other : Reply)
    → Owes w past step one → Owes w past step other → one ≡ other
one_reply w past step one other g h =
    let same : g.is_out ≡ h.is_out = one_answer g.is_out h.is_out g.decides h.decides in
    g.told ∙ (ap (λ b. reply_told b w past step) same ∙ sym h.told)

-- ---- refusals of steps

-- its number is 4 or more, and it isn't that memory ran out
abbrev pub in_table : refusals.Refusal → Bool
in_table r = nat_le 4 (refusals.refusal_number r) && not (is_want r)

-- a reply is no refusal, or such a one
abbrev pub is_good : Reply → Bool
is_good (Refused r) = in_table r
is_good (FileRefused r d) = in_table r
is_good (PutBackRefused r j) = in_table r
is_good _ = true

either : (b : Bool) (x y : Reply) → is_good x ≡ true → is_good y ≡ true → is_good (cond b x y) ≡ true
either true x y h k = h
either false x y h k = k

good_answer : (stage : Stage) (c : ClosedParts) → is_good (answer_reply stage c) ≡ true
good_answer NoAudit c = refl
good_answer (Wanted first last) c =
    either ((c.segment.first == first) && (last_of c.segment == last))
    Accepted (Refused refusals.NotAsked) refl refl
good_answer (Given d) c = refl
good_answer (Out d) c = refl

good_tests : (a b c : Bool) (first last : ℕ)
    → is_good (cond a (Refused refusals.TooFar) (cond b (Refused refusals.BookFull)
    (cond c (Refused refusals.OutboxFull) (Asked first last)))) ≡ true
good_tests true b c first last = refl
good_tests false true c first last = refl
good_tests false false true first last = refl
good_tests false false false first last = refl

good_up_to : (start end waiting last : ℕ) → is_good (ask_up_to start end waiting last) ≡ true
good_up_to start end waiting last =
    good_tests (last == 0) (nat_lt (start + MAX_AUDITED) last) (nat_lt MAX_OUTBOX (waiting + (last - end)))
    (end + 1) last

good_ask : (v : LogVersion) (exposed : Bool) (start end waiting : ℕ) (learned : List Authenticator)
    → is_good (ask_reply v exposed start end waiting learned) ≡ true
good_ask v true start end waiting learned = refl
good_ask v false start end waiting [] = refl
good_ask v false start end waiting (a ∷ learned) =
    good_up_to start end waiting (last_in_reach v end (a ∷ learned))

good_audit : (w : Watched) (past : Past) (stage : Stage)
    → is_good (audit_reply w past stage) ≡ true
good_audit w past NoAudit = good_ask w.member.log_version (is_exposed w past) _ _ _ (kept w past)
good_audit w past (Wanted first last) = refl
good_audit w past (Given c) = refl
good_audit w past (Out c) = refl

good_begin : (w : Watched) (past : Past) (stage : Stage)
    → is_good (begin_reply w past stage) ≡ true
good_begin w past NoAudit = refl
good_begin w past (Wanted first last) = refl
good_begin w past (Given c) =
    either (is_exposed w past) (Refused refusals.NothingToAudit) (Job (next_job w past c)) refl refl
good_begin w past (Out c) = refl

good_back : (b : Bool) (job : Option JobParts) (good wrong none : Reply) → is_good good ≡ true
    → is_good wrong ≡ true → is_good none ≡ true → is_good (back_reply b job good wrong none) ≡ true
good_back b None good wrong none h k l = l
good_back true (Some j) good wrong none h k l = h
good_back false (Some j) good wrong none h k l = k

good_forward : (waiting : List Authenticator) → is_good (forward_reply waiting) ≡ true
good_forward [] = refl
good_forward (a ∷ rest) = refl

good_question : (w : Watched) (past : Past) (q : Question)
    → is_good (ask w past q) ≡ true
good_question w past ItsIndication = refl
good_question w past ItsChallenges = refl
good_question w past ItsEvidence = refl

good_learn : (a b c d : Bool)
    → is_good (cond a Noted (cond b (Refused refusals.BelowBase)
    (cond c Already (cond d (Refused refusals.LearnedFull) Noted)))) ≡ true
good_learn true b c d = refl
good_learn false true c d = refl
good_learn false false true d = refl
good_learn false false false true = refl
good_learn false false false false = refl

good_challenge : (a b : Bool)
    → is_good (cond a Already (cond b (Refused refusals.ChallengesFull) Opened)) ≡ true
good_challenge true b = refl
good_challenge false true = refl
good_challenge false false = refl

-- a reply that is told to a step is no refusal, or one with a number from 4 that isn't NoMemory
pub good_reply : (b : Bool) (w : Watched) (past : Past) (step : Step)
    → is_good (reply_told b w past step) ≡ true
good_reply b w past (Learn a) =
    good_learn (is_exposed w past) (is_below w.base (number_of w.member.log_version a))
    (is_shown (pair_of w.member.log_version a) (shown w past)) (has_no_room w past a)
good_reply b w past (SendChallenge e) =
    good_challenge (is_open (envelope_message e) (open_challenges past))
    (nat_le MAX_CHALLENGES (count_by is_send (open_challenges past)))
good_reply b w past (Answer c) = good_answer (stage_of past) c
good_reply b w past (AckIn a) =
    either (is_open (acked_message a) (open_challenges past)) Closed (Refused refusals.NotAsked) refl refl
good_reply b w past Audit = good_audit w past (stage_of past)
good_reply b w past Begin = good_begin w past (stage_of past)
good_reply b w past (File d) =
    good_back b (job_out w past) Filed (FileRefused refusals.WrongJob d)
    (FileRefused refusals.NoJob d) refl refl refl
good_reply b w past (PutBack j) =
    good_back b (job_out w past) Returned (PutBackRefused refusals.WrongJob j)
    (PutBackRefused refusals.NoJob j) refl refl refl
good_reply b w past Forward = good_forward (outbox w past)
good_reply b w past (Ask q) = good_question w past q

-- the same of every reply that is owed to a step
pub owed_good : (w : Watched) (past : Past) (step : Step) (reply : Reply)
    → Owes w past step reply → is_good reply ≡ true
owed_good w past step reply g = ap is_good g.told ∙ good_reply g.is_out w past step

-- ---- refusals of events

table_want : (r : refusals.Refusal) → in_table r ≡ true → is_want r ≡ false
table_want refusals.UnknownNode h = refl
table_want refusals.Garbage h = refl
table_want refusals.BadSignature h = refl
table_want refusals.LearnedFull h = refl
table_want refusals.ChallengesFull h = refl
table_want refusals.OutboxFull h = refl
table_want refusals.TooFar h = refl
table_want refusals.NothingToAudit h = refl
table_want refusals.Busy h = refl
table_want refusals.NotAsked h = refl
table_want refusals.NoJob h = refl
table_want refusals.WrongJob h = refl
table_want refusals.BookFull h = refl
table_want refusals.NoMemory h = cc
table_want refusals.BelowBase h = refl

-- such a reply doesn't say that memory ran out
pub good_want : (r : Reply) → is_good r ≡ true → is_want_of_memory r ≡ false
good_want (Refused r) h = table_want r h
good_want (FileRefused r d) h = table_want r h
good_want (PutBackRefused r j) h = table_want r h
good_want Noted h = refl
good_want Already h = refl
good_want Opened h = refl
good_want Accepted h = refl
good_want Closed h = refl
good_want (Asked first last) h = refl
good_want (Job j) h = refl
good_want Filed h = refl
good_want Returned h = refl
good_want (Forwarded a) h = refl
good_want Empty h = refl
good_want (Told i) h = refl
good_want (OpenList xs) h = refl
good_want (EvidenceIs e) h = refl

-- the refusal of an event is such a reply exactly where it is one of these
pub good_refused : (e : Event) (r : refusals.Refusal) → is_good (refused e r) ≡ in_table r
good_refused (events.Deliver bytes) r = refl
good_refused (events.Learn a key) r = refl
good_refused (events.SendChallenge e key) r = refl
good_refused (events.Answer c) r = refl
good_refused (events.AckIn a key) r = refl
good_refused (events.Audit node) r = refl
good_refused (events.Begin node) r = refl
good_refused (events.File d) r = refl
good_refused (events.PutBack j) r = refl
good_refused (events.Forward node) r = refl
good_refused (events.Ask node q) r = refl

-- the refusal NoMemory of any event is a reply that says that memory ran out
pub want_refused : (e : Event) → is_want_of_memory (refused e refusals.NoMemory) ≡ true
want_refused (events.Deliver bytes) = refl
want_refused (events.Learn a key) = refl
want_refused (events.SendChallenge e key) = refl
want_refused (events.Answer c) = refl
want_refused (events.AckIn a key) = refl
want_refused (events.Audit node) = refl
want_refused (events.Begin node) = refl
want_refused (events.File d) = refl
want_refused (events.PutBack j) = refl
want_refused (events.Forward node) = refl
want_refused (events.Ask node q) = refl
