-- What is decided of a step before the book changes: all that the reply and the change need beside the step.
use Rattle.std.specs.Prelude.{◌≡◌, ◌≢◌, ◌<◌, Bool, true, false, length, Option, Some, None, option_map}
use Rattle.std.specs.Arc.{arc_value}
use Rattle.std.specs.Vec.{vec_capacity}
use Rattle.authenticator.specs.declared.authenticator.Authenticator.{Authenticator}
use Rattle.secure_log.specs.Versioned.{ClosedParts}
use Rattle.envelopes.specs.declared.envelope.Envelope.{Envelope}
use Rattle.envelopes.specs.declared.acknowledgement.Ack.{Ack}
use Rattle.witness_spec.specs.Events.{JobParts}
use Rattle.witness_spec.specs.Refusals as refusals
use Rattle.witness_spec.specs.Replies as spec
use Rattle.witness_book_laws.specs.Books.{Book, exposed, job_out}
use Rattle.witness_book_laws.specs.Replying.{reply_to_learn, reply_to_send_challenge, reply_to_answer}
use Rattle.witness_book_laws.specs.Replying.{reply_to_ack, reply_to_audit, reply_to_begin, reply_to_forward}
use Rattle.witness_book_laws.specs.Replying.{reply_to_ask}
use Rattle.witness_book_laws.specs.Going.{evidence_noted, evidence_accepted, first_evidence}
use Rattle.node_book.specs.Events.{question_in}
use Rattle.node_book.specs.Replies.{reply_in}
use Rattle.node_book.specs.Outboxes.{HasPlace}
use Rattle.node_book.specs.declared.event.Question.{Question}
use Rattle.node_book.specs.declared.refusal.Refusal.TheVariants as f
use Rattle.node_book.specs.declared.reply.ReplyOf.{ReplyOf}
use Rattle.node_book.specs.declared.reply.ReplyOf.TheVariants as r
use Rattle.node_book.specs.declared.step.Step.{Step}
use Rattle.node_book.specs.declared.step.Step.TheVariants as s
use Rattle.node_book.specs.declared.decision.LearnDecision.{LearnDecision}
use Rattle.node_book.specs.declared.decision.LearnDecision.TheVariants as l
use Rattle.node_book.specs.declared.decision.ChallengeDecision.{ChallengeDecision}
use Rattle.node_book.specs.declared.decision.ChallengeDecision.TheVariants as o
use Rattle.node_book.specs.declared.decision.AnswerDecision.{AnswerDecision}
use Rattle.node_book.specs.declared.decision.AnswerDecision.TheVariants as a
use Rattle.node_book.specs.declared.decision.AuditDecision.{AuditDecision}
use Rattle.node_book.specs.declared.decision.AuditDecision.TheVariants as q
use Rattle.node_book.specs.declared.decision.ReturnDecision.{ReturnDecision}
use Rattle.node_book.specs.declared.decision.ReturnDecision.TheVariants as c
use Rattle.node_book.specs.declared.decision.AskDecision.{AskDecision}
use Rattle.node_book.specs.declared.decision.AskDecision.TheVariants as t
use Rattle.node_book.specs.declared.decision.BeginDecision.{BeginDecision}
use Rattle.node_book.specs.declared.decision.BeginDecision.TheVariants as b
use Rattle.node_book.specs.declared.decision.Decision.{Decision}
use Rattle.node_book.specs.declared.decision.Decision.TheVariants as d
use Rattle.node_book.specs.declared.rows.Rows.{Rows}

-- a reply in memory, with jobs and done values or with their words
abbrev pub AnyReply : Type 0
AnyReply = ReplyOf JobParts JobParts

-- ---- replies

-- the reply to an authenticator
abbrev pub learn_reply : {J D : Type 0} → LearnDecision → ReplyOf J D
learn_reply l.Known = r.Already
learn_reply l.Below = r.Refused f.BelowBase
learn_reply l.Full = r.Refused f.LearnedFull
learn_reply l.Ignored = r.Noted
learn_reply (l.Noted evidence) = r.Noted

-- the reply to a challenge with a message
abbrev pub challenge_reply : {J D : Type 0} → ChallengeDecision → ReplyOf J D
challenge_reply o.Known = r.Already
challenge_reply o.Full = r.Refused f.ChallengesFull
challenge_reply o.Opened = r.Opened

-- the reply to a segment
abbrev pub answer_reply : {J D : Type 0} → AnswerDecision → ReplyOf J D
answer_reply a.NotAsked = r.Refused f.NotAsked
answer_reply (a.Accepted share evidence) = r.Accepted

-- the reply to an acknowledgement, by whether its challenge is open
abbrev pub ack_reply : {J D : Type 0} → (is_open : Bool) → ReplyOf J D
ack_reply true = r.Closed
ack_reply false = r.Refused f.NotAsked

-- the reply to an audit
abbrev pub audit_reply : {J D : Type 0} → AuditDecision → ReplyOf J D
audit_reply (q.Asked first last) = r.Asked first last
audit_reply (q.Refused refusal) = r.Refused refusal

-- the reply where a job is to begin
abbrev pub begin_reply : BeginDecision → AnyReply
begin_reply (b.Begun job) = r.Job job
begin_reply (b.Refused refusal) = r.Refused refusal

-- the reply to a done value that comes back
abbrev pub file_reply : JobParts → ReturnDecision → AnyReply
file_reply j c.NoJob = r.FileRefused f.NoJob j
file_reply j c.Another = r.FileRefused f.WrongJob j
file_reply j c.IsOut = r.Filed

-- the reply to a job that comes back
abbrev pub put_back_reply : JobParts → ReturnDecision → AnyReply
put_back_reply j c.NoJob = r.PutBackRefused f.NoJob j
put_back_reply j c.Another = r.PutBackRefused f.WrongJob j
put_back_reply j c.IsOut = r.Returned

-- the reply where something is to be forwarded
abbrev pub forward_reply : Option Authenticator → AnyReply
forward_reply None = r.Empty
forward_reply (Some x) = r.Forwarded x

-- the reply to a question
abbrev pub question_reply : AskDecision → AnyReply
question_reply (t.Told indication) = r.Told indication
question_reply (t.OpenList challenges) = r.OpenList challenges
question_reply (t.EvidenceIs evidence) = r.EvidenceIs evidence

-- The reply to a step of which this was decided. No other pair of step and decision is ever made.
abbrev pub reply_of : Step → Decision → AnyReply
reply_of step (d.Learn x) = learn_reply x
reply_of step (d.SendChallenge x) = challenge_reply x
reply_of step (d.Answer x) = answer_reply x
reply_of step (d.AckIn x) = ack_reply x
reply_of step (d.Audit x) = audit_reply x
reply_of step (d.Begin x) = begin_reply x
reply_of (s.File j) (d.File x) = file_reply j x
reply_of (s.PutBack j) (d.PutBack x) = put_back_reply j x
reply_of step (d.Forward x) = forward_reply x
reply_of step (d.Ask x) = question_reply x
reply_of step decided = r.Refused f.NoMemory

-- ---- what is decided

-- Of an authenticator: whether it is known, and what it exposes.
abbrev pub DecidesLearn : Book → Authenticator → LearnDecision → Type 0
DecidesLearn book x l.Known = reply_to_learn book x ≡ spec.Already
DecidesLearn book x l.Below = reply_to_learn book x ≡ spec.Refused refusals.BelowBase
DecidesLearn book x l.Full = reply_to_learn book x ≡ spec.Refused refusals.LearnedFull
DecidesLearn book x l.Ignored = exposed book ≡ true
DecidesLearn book x (l.Noted evidence) =
    (exposed book ≡ false) × (reply_to_learn book x ≡ spec.Noted)
    × (evidence_noted book x ≡ option_map arc_value evidence)

-- Of a challenge with a message: whether it is open.
abbrev pub DecidesChallenge : Book → Envelope → ChallengeDecision → Type 0
DecidesChallenge book x opening = reply_to_send_challenge book x ≡ reply_in (challenge_reply opening)

-- Of a segment: whether it was asked for, and what it exposes; and one share of it more.
abbrev pub DecidesAnswer : Book → ClosedParts → AnswerDecision → Type 0
DecidesAnswer book x a.NotAsked = reply_to_answer book x ≡ spec.Refused refusals.NotAsked
DecidesAnswer book x (a.Accepted share evidence) =
    (reply_to_answer book x ≡ spec.Accepted) × (share ≡ x)
    × (evidence_accepted book x.segment ≡ first_evidence book.evidence (option_map arc_value evidence))

-- Of an acknowledgement: whether its challenge is open.
abbrev pub DecidesAck : Book → Ack → (is_open : Bool) → Type 0
DecidesAck book x is_open = reply_to_ack book x ≡ reply_in (ack_reply is_open)

-- Of an audit: what is asked for.
abbrev pub DecidesAudit : Book → AuditDecision → Type 0
DecidesAudit book x = reply_to_audit book book.stage ≡ reply_in (audit_reply x)

-- Of a job that is to begin: the job.
abbrev pub DecidesBegin : Book → BeginDecision → Type 0
DecidesBegin book x = reply_to_begin book book.stage ≡ reply_in (begin_reply x)

-- Of a job that comes back: whether it is the one that is out.
abbrev pub DecidesReturn : Book → JobParts → ReturnDecision → Type 0
DecidesReturn book j c.NoJob = job_out book ≡ None
DecidesReturn book j c.Another = (k : JobParts) × ((job_out book ≡ Some k) × (k ≢ j))
DecidesReturn book j c.IsOut = job_out book ≡ Some j

-- Of what is to be forwarded: the oldest.
abbrev pub DecidesForward : Book → Option Authenticator → Type 0
DecidesForward book x = reply_to_forward book ≡ reply_in (forward_reply x)

-- Of a question: what is told.
abbrev pub DecidesAsk : Book → Question → AskDecision → Type 0
DecidesAsk book question x = reply_to_ask book (question_in question) ≡ reply_in (question_reply x)

-- This was decided of a step.
abbrev pub Decides : Book → Step → Decision → Type 0
Decides book (s.Learn x) (d.Learn y) = DecidesLearn book x y
Decides book (s.SendChallenge x) (d.SendChallenge y) = DecidesChallenge book x y
Decides book (s.Answer x) (d.Answer y) = DecidesAnswer book x y
Decides book (s.AckIn x) (d.AckIn y) = DecidesAck book x y
Decides book s.Audit (d.Audit y) = DecidesAudit book y
Decides book s.Begin (d.Begin y) = DecidesBegin book y
Decides book (s.File x) (d.File y) = DecidesReturn book x y
Decides book (s.PutBack x) (d.PutBack y) = DecidesReturn book x y
Decides book s.Forward (d.Forward y) = DecidesForward book y
Decides book (s.Ask x) (d.Ask y) = DecidesAsk book x y
Decides book step decided = ⊥

-- ---- room

-- What was decided of a step adds something to the book.
abbrev pub AddsOne : Decision → Type 0
AddsOne (d.Learn (l.Noted None)) = Unit {0}
AddsOne (d.SendChallenge o.Opened) = Unit {0}
AddsOne (d.Answer (a.Accepted share evidence)) = Unit {0}
AddsOne (d.Audit (q.Asked first last)) = Unit {0}
AddsOne (d.File c.IsOut) = Unit {0}
AddsOne decided = ⊥

-- A book has room for an authenticator that it is to keep.
abbrev pub HasRoomToLearn : Rows → LearnDecision → Type 0
HasRoomToLearn rows (l.Noted None) = length rows.learned.items < vec_capacity rows.learned
HasRoomToLearn rows learning = Unit {0}

-- For a challenge with a message that is to be open.
abbrev pub HasRoomToOpen : Rows → ChallengeDecision → Type 0
HasRoomToOpen rows o.Opened = length rows.challenges.items < vec_capacity rows.challenges
HasRoomToOpen rows opening = Unit {0}

-- For a segment that it accepts.
abbrev pub HasRoomToAccept : Rows → AnswerDecision → Type 0
HasRoomToAccept rows (a.Accepted share evidence) = length rows.segments.items < vec_capacity rows.segments
HasRoomToAccept rows a.NotAsked = Unit {0}

-- For an audit that is to be open.
abbrev pub HasRoomToAsk : Rows → AuditDecision → Type 0
HasRoomToAsk rows (q.Asked first last) = length rows.challenges.items < vec_capacity rows.challenges
HasRoomToAsk rows (q.Refused refusal) = Unit {0}

-- For what the job that is out found.
abbrev pub HasRoomToFile : Rows → ReturnDecision → Type 0
HasRoomToFile rows c.IsOut = HasPlace rows.outbox
HasRoomToFile rows coming = Unit {0}

-- A book has room for what is decided to be added: one authenticator, challenge, segment or share of the
-- outbox more.
abbrev pub HasRoomFor : Rows → Decision → Type 0
HasRoomFor rows (d.Learn x) = HasRoomToLearn rows x
HasRoomFor rows (d.SendChallenge x) = HasRoomToOpen rows x
HasRoomFor rows (d.Answer x) = HasRoomToAccept rows x
HasRoomFor rows (d.Audit x) = HasRoomToAsk rows x
HasRoomFor rows (d.File x) = HasRoomToFile rows x
HasRoomFor rows decided = Unit {0}
