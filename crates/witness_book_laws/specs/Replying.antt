-- What is replied to a step by the book alone. Refusals are tried in the order in which they stand.
use Rattle.std.specs.Prelude.{◌≡◌, ◌+◌, Bool, not, ◌&&◌, nat_lt, nat_le, length, Some}
use Rattle.std.specs.Prelude.{Decides, if◌then◌else◌}
use Rattle.authenticator.specs.declared.authenticator.Authenticator.{Authenticator}
use Rattle.secure_log.specs.Versioned.{ClosedParts}
use Rattle.envelopes.specs.Acknowledgement.{acked_message}
use Rattle.envelopes.specs.declared.envelope.Envelope.{Envelope}
use Rattle.envelopes.specs.declared.acknowledgement.Ack.{Ack}
use Rattle.witness_laws.specs.witness_spec.Refusals.{LearnedFull, NothingToAudit, Busy, NoJob, WrongJob, BelowBase}
use Rattle.witness_laws.specs.witness_spec.Events.{JobParts, DoneParts, Question, ItsIndication}
use Rattle.witness_laws.specs.witness_spec.Events.{ItsChallenges}
use Rattle.witness_laws.specs.witness_spec.Events.{ItsEvidence}
use Rattle.witness_laws.specs.witness_spec.Replies.{Reply, Noted, Already, Job, Filed, Returned, Told}
use Rattle.witness_laws.specs.witness_spec.Replies.{OpenList}
use Rattle.witness_laws.specs.witness_spec.Replies.{EvidenceIs}
use Rattle.witness_laws.specs.witness_spec.Replies.{Refused, FileRefused, PutBackRefused}
use Rattle.witness_laws.specs.witness_spec.Starting.{start_number, is_below}
use Rattle.witness_laws.specs.witness_spec.Steps.{Step, Learn, SendChallenge, Answer, AckIn, Audit, Begin}
use Rattle.witness_laws.specs.witness_spec.Steps.{File, PutBack}
use Rattle.witness_laws.specs.witness_spec.Steps.{Forward, Ask}
use Rattle.witness_laws.specs.witness_spec.Limits.{MAX_LEARNED}
use Rattle.witness_laws.specs.witness_spec.Pairs.{pair_of, is_shown, is_fork, number_of}
use Rattle.witness_laws.specs.witness_spec.Standing.{Stage, NoAudit, Wanted, Given, Out}
use Rattle.witness_laws.specs.witness_spec.Owing.{challenge_reply, answer_reply, ack_reply, ask_reply}
use Rattle.witness_laws.specs.witness_spec.Owing.{back_reply}
use Rattle.witness_laws.specs.witness_spec.Owing.{forward_reply}
use Rattle.witness_book_laws.specs.Books.{Book, exposed, book_shown, job_of, job_out, book_indication}

-- ---- one function for each kind of event

-- An authenticator that makes no fork and lies above the end is to be kept; there may be no room for it.
abbrev pub has_no_room : Book → Authenticator → Bool
has_no_room b a =
    not (is_fork (pair_of b.log_version a) (book_shown b))
    && (nat_lt b.end.number (number_of b.log_version a) && nat_le MAX_LEARNED (length b.learned))

-- to an authenticator that is learned
abbrev pub reply_to_learn : Book → Authenticator → Reply
reply_to_learn b a =
    if exposed b then Noted
    else if is_below b.base (number_of b.log_version a) then Refused BelowBase
    else if is_shown (pair_of b.log_version a) (book_shown b) then Already
    else if has_no_room b a then Refused LearnedFull
    else Noted

-- to a challenge with a message
abbrev pub reply_to_send_challenge : Book → Envelope → Reply
reply_to_send_challenge b e = challenge_reply b.challenges e

-- to a segment
abbrev pub reply_to_answer : Book → ClosedParts → Reply
reply_to_answer b c = answer_reply b.stage c

-- to an acknowledgement
abbrev pub reply_to_ack : Book → Ack → Reply
reply_to_ack b a = ack_reply b.challenges (acked_message a)

-- to an audit, by its stage
abbrev pub reply_to_audit : Book → Stage → Reply
reply_to_audit b NoAudit =
    ask_reply b.log_version (exposed b) (start_number b.base) b.end.number (length b.outbox) b.learned
reply_to_audit b (Wanted first last) = Refused Busy
reply_to_audit b (Given c) = Refused Busy
reply_to_audit b (Out c) = Refused Busy

-- where a job is to begin, by the stage
abbrev pub reply_to_begin : Book → Stage → Reply
reply_to_begin b NoAudit = Refused NothingToAudit
reply_to_begin b (Wanted first last) = Refused NothingToAudit
reply_to_begin b (Given c) = if exposed b then Refused NothingToAudit else Job (job_of b (b.begun + 1) c)
reply_to_begin b (Out c) = Refused Busy

-- to a done job that is filed, by whether it is the one that is out
abbrev pub reply_to_file : (is_out : Bool) → Book → DoneParts → Reply
reply_to_file is_out b d = back_reply is_out (job_out b) Filed (FileRefused WrongJob d) (FileRefused NoJob d)

-- to a job that is put back, by whether it is the one that is out
abbrev pub reply_to_put_back : (is_out : Bool) → Book → JobParts → Reply
reply_to_put_back is_out b j =
    back_reply is_out (job_out b) Returned (PutBackRefused WrongJob j) (PutBackRefused NoJob j)

-- where something is to be forwarded
abbrev pub reply_to_forward : Book → Reply
reply_to_forward b = forward_reply b.outbox

-- to a question
abbrev pub reply_to_ask : Book → Question → Reply
reply_to_ask b ItsIndication = Told (book_indication b)
reply_to_ask b ItsChallenges = OpenList b.challenges
reply_to_ask b ItsEvidence = EvidenceIs b.evidence

-- ---- all steps

-- What the book replies to a step, where it is told whether the job that comes back is the one that is out.
abbrev pub book_reply : (is_out : Bool) → Book → Step → Reply
book_reply is_out b (Learn a) = reply_to_learn b a
book_reply is_out b (SendChallenge e) = reply_to_send_challenge b e
book_reply is_out b (Answer c) = reply_to_answer b c
book_reply is_out b (AckIn a) = reply_to_ack b a
book_reply is_out b Audit = reply_to_audit b b.stage
book_reply is_out b Begin = reply_to_begin b b.stage
book_reply is_out b (File d) = reply_to_file is_out b d
book_reply is_out b (PutBack j) = reply_to_put_back is_out b j
book_reply is_out b Forward = reply_to_forward b
book_reply is_out b (Ask question) = reply_to_ask b question

-- The job that comes back with a step is the one that is out.
abbrev pub IsOut : Book → Step → Type 0
IsOut b (File d) = job_out b ≡ Some d.job
IsOut b (PutBack j) = job_out b ≡ Some j
IsOut b _ = ⊥

-- A reply is the book's, told by a Bool that decides whether the job that comes back is the one that is out.
pub record BookOwes (b : Book) (step : Step) (reply : Reply) : Type 0 where
  -- whether it is
  pub is_out : Bool
  -- that decides it
  pub decides : Decides is_out (IsOut b step)
  -- the reply is what is told so
  pub told : reply ≡ book_reply is_out b step
