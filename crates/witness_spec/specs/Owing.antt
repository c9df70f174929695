-- The reply that a witness owes to a node's next step, by that node's own earlier steps. Refusals are tried
-- in the order in which they stand.
use Rattle.std.specs.Prelude.{◌≡◌, ℕ, ◌+◌, ◌-◌, Bool, true, false, not, max, ◌&&◌, ◌==◌, nat_lt, nat_le}
use Rattle.std.specs.Prelude.{List, [], ◌∷◌, length, map, filter, fold, count_by, Option, Some, None}
use Rattle.std.specs.Prelude.{Decides, if◌then◌else◌}
use Rattle.std.specs.List.{list_any}
use Rattle.authenticator.specs.declared.authenticator.Authenticator.{Authenticator}
use Rattle.authenticator.specs.declared.member.LogVersion.{LogVersion}
use Rattle.secure_log.specs.Versioned.{ClosedParts}
use Rattle.packets.specs.envelopes.Envelope.{envelope_message}
use Rattle.packets.specs.envelopes.Acknowledgement.{acked_message}
use Rattle.packets.specs.envelopes.declared.message.Message.{Message}
use Rattle.packets.specs.envelopes.declared.envelope.Envelope.{Envelope}
use Rattle.witness_spec.specs.Refusals.{LearnedFull, ChallengesFull, OutboxFull, TooFar, NothingToAudit, Busy}
use Rattle.witness_spec.specs.Refusals.{NotAsked, NoJob, WrongJob, BookFull, BelowBase}
use Rattle.witness_spec.specs.Events.{JobParts, Question, ItsIndication, ItsChallenges, ItsEvidence}
use Rattle.witness_spec.specs.Replies.{Reply, Noted, Already, Opened, Accepted, Closed, Asked, Job, Filed}
use Rattle.witness_spec.specs.Replies.{Returned, Forwarded, Empty, Told, OpenList, EvidenceIs}
use Rattle.witness_spec.specs.Replies.{Refused, FileRefused, PutBackRefused, Challenge, AuditOf, SendOf}
use Rattle.witness_spec.specs.Starting.{start_number, is_below}
use Rattle.witness_spec.specs.Watched.{Watched}
use Rattle.witness_spec.specs.Steps.{Step, Learn, SendChallenge, Answer, AckIn, Audit, Begin, File, PutBack}
use Rattle.witness_spec.specs.Steps.{Forward, Ask, Past}
use Rattle.witness_spec.specs.Limits.{MAX_LEARNED, MAX_CHALLENGES, MAX_ASKED, MAX_AUDITED, MAX_OUTBOX}
use Rattle.witness_spec.specs.Pairs.{pair_of, is_shown, is_fork, number_of, first_of, last_of}
use Rattle.witness_spec.specs.Standing.{end_of, shown, is_exposed, kept, Stage, NoAudit, Wanted, Given, Out}
use Rattle.witness_spec.specs.Standing.{stage_of, begins, job_of, job_out, is_send_of, open_challenges}
use Rattle.witness_spec.specs.Standing.{indication, outbox}
use Rattle.witness_spec.specs.Exposing.{evidence}

-- ---- what is handed in

-- An authenticator whose pair isn't shown and makes no fork is to be kept if it lies above the end; there may
-- be no room for it.
abbrev pub has_no_room : Watched → Past → Authenticator → Bool
has_no_room w past a =
    not (is_fork (pair_of w.member.log_version a) (shown w past))
    && (nat_lt (end_of w past).number (number_of w.member.log_version a)
    && nat_le MAX_LEARNED (length (kept w past)))

-- the reply to an authenticator that is learned
abbrev pub learn_reply : Watched → Past → Authenticator → Reply
learn_reply w past a =
    if is_exposed w past then Noted
    else if is_below w.base (number_of w.member.log_version a) then Refused BelowBase
    else if is_shown (pair_of w.member.log_version a) (shown w past) then Already
    else if has_no_room w past a then Refused LearnedFull
    else Noted

-- whether a challenge is with a message
abbrev pub is_send : Challenge → Bool
is_send (AuditOf first last) = false
is_send (SendOf e) = true

-- a send challenge with a message is open
abbrev pub is_open : Message → List Challenge → Bool
is_open message challenges = list_any (is_send_of message) challenges

-- the reply to a challenge with a message
abbrev pub challenge_reply : List Challenge → Envelope → Reply
challenge_reply challenges e =
    if is_open (envelope_message e) challenges then Already
    else if nat_le MAX_CHALLENGES (count_by is_send challenges) then Refused ChallengesFull
    else Opened

-- the first and the last number of a segment are those that were asked for
abbrev pub answer_reply : Stage → ClosedParts → Reply
answer_reply NoAudit c = Refused NotAsked
answer_reply (Wanted first last) c =
    if (first_of c.segment == first) && (last_of c.segment == last) then Accepted else Refused NotAsked
answer_reply (Given d) c = Refused NotAsked
answer_reply (Out d) c = Refused NotAsked

-- an acknowledgement closes the challenge with its message, if that is open
abbrev pub ack_reply : List Challenge → Message → Reply
ack_reply challenges message = if is_open message challenges then Closed else Refused NotAsked

-- ---- audits and jobs

-- the greatest number among those that an audit after `end` can reach; 0 if there is none
abbrev pub last_in_reach : LogVersion → (end : ℕ) → List Authenticator → ℕ
last_in_reach v end learned =
    fold max 0 (filter (λ n. nat_le n (end + MAX_ASKED)) (map (λ a. number_of v a) learned))

-- an audit up to a number, in a book that begins after `start`
abbrev pub ask_up_to : (start end waiting last : ℕ) → Reply
ask_up_to start end waiting last =
    if last == 0 then Refused TooFar
    else if nat_lt (start + MAX_AUDITED) last then Refused BookFull
    else if nat_lt MAX_OUTBOX (waiting + (last - end)) then Refused OutboxFull
    else Asked (end + 1) last

-- an audit of what was learned above the end
abbrev pub ask_reply : LogVersion → (exposed : Bool) (start end waiting : ℕ) → List Authenticator → Reply
ask_reply v true start end waiting learned = Refused NothingToAudit
ask_reply v false start end waiting [] = Refused NothingToAudit
ask_reply v false start end waiting (a ∷ learned) =
    ask_up_to start end waiting (last_in_reach v end (a ∷ learned))

-- the reply to an audit, by its stage
abbrev pub audit_reply : Watched → Past → Stage → Reply
audit_reply w past NoAudit =
    ask_reply w.member.log_version (is_exposed w past) (start_number w.base) (end_of w past).number
    (length (outbox w past)) (kept w past)
audit_reply w past (Wanted first last) = Refused Busy
audit_reply w past (Given c) = Refused Busy
audit_reply w past (Out c) = Refused Busy

-- the job of a segment, with the number after the last
abbrev pub next_job : Watched → Past → ClosedParts → JobParts
next_job w past c = record (job_of w past c) { number = begins past + 1 }

-- the reply where a job is to begin, by the stage
abbrev pub begin_reply : Watched → Past → Stage → Reply
begin_reply w past NoAudit = Refused NothingToAudit
begin_reply w past (Wanted first last) = Refused NothingToAudit
begin_reply w past (Given c) =
    if is_exposed w past then Refused NothingToAudit else Job (next_job w past c)
begin_reply w past (Out c) = Refused Busy

-- a job comes back: it is the one that is out, or another, or none is out
abbrev pub back_reply : (is_out : Bool) → Option JobParts → (good wrong none : Reply) → Reply
back_reply is_out None good wrong none = none
back_reply true (Some j) good wrong none = good
back_reply false (Some j) good wrong none = wrong

-- ---- what is asked for

-- the first authenticator that waits to be forwarded, if one does
abbrev pub forward_reply : List Authenticator → Reply
forward_reply [] = Empty
forward_reply (a ∷ rest) = Forwarded a

-- what is told of a node
abbrev pub ask : Watched → Past → Question → Reply
ask w past ItsIndication = Told (indication w past)
ask w past ItsChallenges = OpenList (open_challenges past)
ask w past ItsEvidence = EvidenceIs (evidence w past)

-- ---- all steps

-- The reply, where it is told whether the job that comes back is the one that is out.
abbrev pub reply_told : (is_out : Bool) → Watched → Past → Step → Reply
reply_told is_out w past (Learn a) = learn_reply w past a
reply_told is_out w past (SendChallenge e) = challenge_reply (open_challenges past) e
reply_told is_out w past (Answer c) = answer_reply (stage_of past) c
reply_told is_out w past (AckIn a) = ack_reply (open_challenges past) (acked_message a)
reply_told is_out w past Audit = audit_reply w past (stage_of past)
reply_told is_out w past Begin = begin_reply w past (stage_of past)
reply_told is_out w past (File d) =
    back_reply is_out (job_out w past) Filed (FileRefused WrongJob d) (FileRefused NoJob d)
reply_told is_out w past (PutBack j) =
    back_reply is_out (job_out w past) Returned (PutBackRefused WrongJob j) (PutBackRefused NoJob j)
reply_told is_out w past Forward = forward_reply (outbox w past)
reply_told is_out w past (Ask question) = ask w past question

-- The job that comes back with a step is the one that is out: the same node, number, state and segment.
abbrev pub IsOut : Watched → Past → Step → Type 0
IsOut w past (File d) = job_out w past ≡ Some d.job
IsOut w past (PutBack j) = job_out w past ≡ Some j
IsOut w past _ = ⊥

-- The reply that is owed. Whether two jobs are the same is no test that computes, since states hold whole
-- trees of files; so the reply is a relation, told by a Bool that decides it. There is one reply at most.
pub record Owes (w : Watched) (past : Past) (step : Step) (reply : Reply) : Type 0 where
  pub is_out : Bool
  pub decides : Decides is_out (IsOut w past step)
  pub told : reply ≡ reply_told is_out w past step
