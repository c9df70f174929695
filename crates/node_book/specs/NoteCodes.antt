-- Codes of events and replies, by which a proof tells notes of them apart.
use Rattle.std.specs.Prelude.{◌≡◌, ◌==◌, ℕ, List, Option, if◌then◌else◌, refl}
use Rattle.std.specs.Coded.{Coded, code_by, coded×, coded⊎, coded_ℕ, coded_list, coded_option}
use Rattle.std.proofs.Common.{inl, inr, ◌⊎◌}
use Rattle.authenticator.specs.declared.authenticator.Authenticator.{Authenticator}
use Rattle.secure_log.specs.Versioned.{ClosedParts}
use Rattle.envelopes.specs.declared.envelope.Envelope.{Envelope}
use Rattle.envelopes.specs.contracts.envelope.Envelope as envelopes
use Rattle.envelopes.specs.declared.acknowledgement.Ack.{Ack}
use Rattle.envelopes.specs.contracts.acknowledgement.Ack as acks
use Rattle.evidence_spec.specs.Evidence.{EvidenceParts}
use Rattle.challenge.specs.contracts.evidence.Evidence as evidences
use Rattle.witness_spec.specs.state_spec.State.{State}
use Rattle.witness_spec.specs.state_spec.Codes.{state_code}
use Rattle.challenge.specs.replay.replay_spec.Stepping.{ReplayFault, BadForm, BadReceive, Repeated}
use Rattle.challenge.specs.replay.replay_spec.Stepping.{WrongReply, ClockBack}
use Rattle.challenge.specs.replay.replay_spec.Stepping.{WrongCheckpoint, BadAck, fault_number}
use Rattle.challenge.specs.replay.replay_spec.Replay.{Verdict, Sound, Fault}
use Rattle.witness_spec.specs.Refusals.{Refusal, UnknownNode, Garbage, BadSignature, LearnedFull}
use Rattle.witness_spec.specs.Refusals.{ChallengesFull, OutboxFull, TooFar, NothingToAudit, Busy, NotAsked}
use Rattle.witness_spec.specs.Refusals.{NoJob, WrongJob, BookFull, NoMemory, BelowBase, refusal_number}
use Rattle.witness_spec.specs.Events.{PublicKey, JobParts, DoneParts, Question, ItsIndication, ItsChallenges}
use Rattle.witness_spec.specs.Events.{ItsEvidence, Event}
use Rattle.witness_spec.specs.Events as events
use Rattle.witness_spec.specs.Replies.{Indication, Trusted, Suspected, Exposed, Challenge, Reply}
use Rattle.witness_spec.specs.Replies as replies
use Rattle.replay_jobs.specs.Codes.{closed_code, job_code}
use Rattle.node_book.specs.BookCodes.{authenticator_code, challenge_code}

-- ---- verdicts

-- the fault with a number
abbrev pub fault_at : ℕ → ReplayFault
fault_at n =
    if n == 1 then BadForm
    else if n == 2 then BadReceive
    else if n == 3 then Repeated
    else if n == 4 then WrongReply
    else if n == 5 then ClockBack
    else if n == 6 then WrongCheckpoint
    else BadAck

-- a fault is the one with its number
pub fault_back : (f : ReplayFault) → fault_at (fault_number f) ≡ f
fault_back BadForm = refl
fault_back BadReceive = refl
fault_back Repeated = refl
fault_back WrongReply = refl
fault_back ClockBack = refl
fault_back WrongCheckpoint = refl
fault_back BadAck = refl

-- of a fault
abbrev pub fault_code : Coded ReplayFault
fault_code = code_by ℕ coded_ℕ fault_number fault_at fault_back

-- what a verdict is made of, without names
abbrev pub VerdictParts : Type 0
VerdictParts = (State × List Authenticator) ⊎ (ReplayFault × ℕ)

-- the parts of a verdict
abbrev pub verdict_parts : Verdict → VerdictParts
verdict_parts (Sound s found) = inl (s, found)
verdict_parts (Fault f number) = inr (f, number)

-- the verdict of these parts
abbrev pub verdict_of_parts : VerdictParts → Verdict
verdict_of_parts (inl p) = Sound p.0 p.1
verdict_of_parts (inr p) = Fault p.0 p.1

-- a verdict is that of its parts
pub verdict_parts_back : (v : Verdict) → verdict_of_parts (verdict_parts v) ≡ v
verdict_parts_back (Sound s found) = refl
verdict_parts_back (Fault f number) = refl

-- of a verdict
abbrev pub verdict_code : Coded Verdict
verdict_code =
    code_by VerdictParts
    (coded⊎ (coded× state_code (coded_list authenticator_code)) (coded× fault_code coded_ℕ))
    verdict_parts verdict_of_parts verdict_parts_back

-- of a replay that was done
abbrev pub done_code : Coded DoneParts
done_code =
    code_by (JobParts × Verdict) (coded× job_code verdict_code) (λ d. (d.job, d.verdict))
    (λ p. record { job = p.0; verdict = p.1 }) (λ _. refl)

-- ---- events

-- of a public key
abbrev pub key_code : Coded PublicKey
key_code =
    code_by (List ℕ × ℕ) (coded× (coded_list coded_ℕ) coded_ℕ) (λ k. (k.root, k.height))
    (λ p. record { root = p.0; height = p.1 }) (λ _. refl)

-- the number of a question
abbrev pub question_number : Question → ℕ
question_number ItsIndication = 1
question_number ItsChallenges = 2
question_number ItsEvidence = 3

-- the question with a number
abbrev pub question_at : ℕ → Question
question_at n = if n == 1 then ItsIndication else if n == 2 then ItsChallenges else ItsEvidence

-- a question is the one with its number
pub question_back : (q : Question) → question_at (question_number q) ≡ q
question_back ItsIndication = refl
question_back ItsChallenges = refl
question_back ItsEvidence = refl

-- what an event is made of, without names: bytes; a checked value; a node; a job that comes back
abbrev pub CheckedParts : Type 0
CheckedParts = (Authenticator × PublicKey) ⊎ ((Envelope × PublicKey) ⊎ (ClosedParts ⊎ (Ack × PublicKey)))

abbrev pub NodeParts : Type 0
NodeParts = ℕ ⊎ (ℕ ⊎ (ℕ ⊎ (ℕ × Question)))

abbrev pub EventParts : Type 0
EventParts = List ℕ ⊎ (CheckedParts ⊎ (NodeParts ⊎ (DoneParts ⊎ JobParts)))

-- the parts of an event
abbrev pub event_parts : Event → EventParts
event_parts (events.Deliver bytes) = inl bytes
event_parts (events.Learn a key) = inr (inl (inl (a, key)))
event_parts (events.SendChallenge e key) = inr (inl (inr (inl (e, key))))
event_parts (events.Answer c) = inr (inl (inr (inr (inl c))))
event_parts (events.AckIn a key) = inr (inl (inr (inr (inr (a, key)))))
event_parts (events.Audit node) = inr (inr (inl (inl node)))
event_parts (events.Begin node) = inr (inr (inl (inr (inl node))))
event_parts (events.Forward node) = inr (inr (inl (inr (inr (inl node)))))
event_parts (events.Ask node question) = inr (inr (inl (inr (inr (inr (node, question))))))
event_parts (events.File d) = inr (inr (inr (inl d)))
event_parts (events.PutBack j) = inr (inr (inr (inr j)))

-- the event of these parts
abbrev pub event_of_parts : EventParts → Event
event_of_parts (inl bytes) = events.Deliver bytes
event_of_parts (inr (inl (inl p))) = events.Learn p.0 p.1
event_of_parts (inr (inl (inr (inl p)))) = events.SendChallenge p.0 p.1
event_of_parts (inr (inl (inr (inr (inl c))))) = events.Answer c
event_of_parts (inr (inl (inr (inr (inr p))))) = events.AckIn p.0 p.1
event_of_parts (inr (inr (inl (inl node)))) = events.Audit node
event_of_parts (inr (inr (inl (inr (inl node))))) = events.Begin node
event_of_parts (inr (inr (inl (inr (inr (inl node)))))) = events.Forward node
event_of_parts (inr (inr (inl (inr (inr (inr p)))))) = events.Ask p.0 p.1
event_of_parts (inr (inr (inr (inl d)))) = events.File d
event_of_parts (inr (inr (inr (inr j)))) = events.PutBack j

-- an event is that of its parts
pub event_parts_back : (e : Event) → event_of_parts (event_parts e) ≡ e
event_parts_back (events.Deliver bytes) = refl
event_parts_back (events.Learn a key) = refl
event_parts_back (events.SendChallenge e key) = refl
event_parts_back (events.Answer c) = refl
event_parts_back (events.AckIn a key) = refl
event_parts_back (events.Audit node) = refl
event_parts_back (events.Begin node) = refl
event_parts_back (events.Forward node) = refl
event_parts_back (events.Ask node question) = refl
event_parts_back (events.File d) = refl
event_parts_back (events.PutBack j) = refl

-- of checked values
abbrev pub checked_code : Coded CheckedParts
checked_code =
    coded⊎ (coded× authenticator_code key_code) (coded⊎ (coded× envelopes.the_row.coded key_code)
    (coded⊎ closed_code (coded× acks.the_row.coded key_code)))

-- of a question
abbrev pub question_code : Coded Question
question_code = code_by ℕ coded_ℕ question_number question_at question_back

-- of what names a node
abbrev pub node_code : Coded NodeParts
node_code = coded⊎ coded_ℕ (coded⊎ coded_ℕ (coded⊎ coded_ℕ (coded× coded_ℕ question_code)))

-- of an event
abbrev pub event_code : Coded Event
event_code =
    code_by EventParts
    (coded⊎ (coded_list coded_ℕ) (coded⊎ checked_code (coded⊎ node_code (coded⊎ done_code job_code))))
    event_parts event_of_parts event_parts_back

-- ---- replies

-- the refusal with a number
abbrev pub refusal_at : ℕ → Refusal
refusal_at n =
    if n == 1 then UnknownNode
    else if n == 2 then Garbage
    else if n == 3 then BadSignature
    else if n == 4 then LearnedFull
    else if n == 5 then ChallengesFull
    else if n == 6 then OutboxFull
    else if n == 7 then TooFar
    else if n == 8 then NothingToAudit
    else if n == 9 then Busy
    else if n == 10 then NotAsked
    else if n == 11 then NoJob
    else if n == 12 then WrongJob
    else if n == 13 then BookFull
    else if n == 14 then NoMemory
    else BelowBase

-- a refusal is the one with its number
pub refusal_back : (f : Refusal) → refusal_at (refusal_number f) ≡ f
refusal_back UnknownNode = refl
refusal_back Garbage = refl
refusal_back BadSignature = refl
refusal_back LearnedFull = refl
refusal_back ChallengesFull = refl
refusal_back OutboxFull = refl
refusal_back TooFar = refl
refusal_back NothingToAudit = refl
refusal_back Busy = refl
refusal_back NotAsked = refl
refusal_back NoJob = refl
refusal_back WrongJob = refl
refusal_back BookFull = refl
refusal_back NoMemory = refl
refusal_back BelowBase = refl

-- of a refusal
abbrev pub refusal_code : Coded Refusal
refusal_code = code_by ℕ coded_ℕ refusal_number refusal_at refusal_back

-- the number of an indication
abbrev pub indication_number : Indication → ℕ
indication_number Trusted = 1
indication_number Suspected = 2
indication_number Exposed = 3

-- the indication with a number
abbrev pub indication_at : ℕ → Indication
indication_at n = if n == 1 then Trusted else if n == 2 then Suspected else Exposed

-- an indication is the one with its number
pub indication_back : (i : Indication) → indication_at (indication_number i) ≡ i
indication_back Trusted = refl
indication_back Suspected = refl
indication_back Exposed = refl

-- of an indication
abbrev pub indication_code : Coded Indication
indication_code = code_by ℕ coded_ℕ indication_number indication_at indication_back

-- the reply that has no parts, by a number
abbrev pub plain_at : ℕ → Reply
plain_at n =
    if n == 1 then replies.Noted
    else if n == 2 then replies.Already
    else if n == 3 then replies.Opened
    else if n == 4 then replies.Accepted
    else if n == 5 then replies.Closed
    else if n == 6 then replies.Filed
    else if n == 7 then replies.Returned
    else replies.Empty

-- what a reply is made of, without names: a number where it has no parts; numbers, a job, an authenticator;
-- what is told; a refusal, with what comes back
abbrev pub ToldParts : Type 0
ToldParts = Indication ⊎ (List Challenge ⊎ Option EvidenceParts)

abbrev pub RefusedParts : Type 0
RefusedParts = Refusal ⊎ ((Refusal × DoneParts) ⊎ (Refusal × JobParts))

abbrev pub ReplyParts : Type 0
ReplyParts = ℕ ⊎ ((ℕ × ℕ) ⊎ (JobParts ⊎ (Authenticator ⊎ (ToldParts ⊎ RefusedParts))))

-- the parts of a reply
abbrev pub reply_parts : Reply → ReplyParts
reply_parts replies.Noted = inl 1
reply_parts replies.Already = inl 2
reply_parts replies.Opened = inl 3
reply_parts replies.Accepted = inl 4
reply_parts replies.Closed = inl 5
reply_parts replies.Filed = inl 6
reply_parts replies.Returned = inl 7
reply_parts replies.Empty = inl 8
reply_parts (replies.Asked first last) = inr (inl (first, last))
reply_parts (replies.Job j) = inr (inr (inl j))
reply_parts (replies.Forwarded a) = inr (inr (inr (inl a)))
reply_parts (replies.Told i) = inr (inr (inr (inr (inl (inl i)))))
reply_parts (replies.OpenList cs) = inr (inr (inr (inr (inl (inr (inl cs))))))
reply_parts (replies.EvidenceIs e) = inr (inr (inr (inr (inl (inr (inr e))))))
reply_parts (replies.Refused f) = inr (inr (inr (inr (inr (inl f)))))
reply_parts (replies.FileRefused f d) = inr (inr (inr (inr (inr (inr (inl (f, d)))))))
reply_parts (replies.PutBackRefused f j) = inr (inr (inr (inr (inr (inr (inr (f, j)))))))

-- the reply of these parts
abbrev pub reply_of_parts : ReplyParts → Reply
reply_of_parts (inl n) = plain_at n
reply_of_parts (inr (inl p)) = replies.Asked p.0 p.1
reply_of_parts (inr (inr (inl j))) = replies.Job j
reply_of_parts (inr (inr (inr (inl a)))) = replies.Forwarded a
reply_of_parts (inr (inr (inr (inr (inl (inl i)))))) = replies.Told i
reply_of_parts (inr (inr (inr (inr (inl (inr (inl cs))))))) = replies.OpenList cs
reply_of_parts (inr (inr (inr (inr (inl (inr (inr e))))))) = replies.EvidenceIs e
reply_of_parts (inr (inr (inr (inr (inr (inl f)))))) = replies.Refused f
reply_of_parts (inr (inr (inr (inr (inr (inr (inl p))))))) = replies.FileRefused p.0 p.1
reply_of_parts (inr (inr (inr (inr (inr (inr (inr p))))))) = replies.PutBackRefused p.0 p.1

-- a reply is that of its parts
pub reply_parts_back : (r : Reply) → reply_of_parts (reply_parts r) ≡ r
reply_parts_back replies.Noted = refl
reply_parts_back replies.Already = refl
reply_parts_back replies.Opened = refl
reply_parts_back replies.Accepted = refl
reply_parts_back replies.Closed = refl
reply_parts_back replies.Filed = refl
reply_parts_back replies.Returned = refl
reply_parts_back replies.Empty = refl
reply_parts_back (replies.Asked first last) = refl
reply_parts_back (replies.Job j) = refl
reply_parts_back (replies.Forwarded a) = refl
reply_parts_back (replies.Told i) = refl
reply_parts_back (replies.OpenList cs) = refl
reply_parts_back (replies.EvidenceIs e) = refl
reply_parts_back (replies.Refused f) = refl
reply_parts_back (replies.FileRefused f d) = refl
reply_parts_back (replies.PutBackRefused f j) = refl

-- of what is told
abbrev pub told_code : Coded ToldParts
told_code =
    coded⊎ indication_code (coded⊎ (coded_list challenge_code) (coded_option evidences.the_row.coded))

-- of refusals
abbrev pub refused_code : Coded RefusedParts
refused_code = coded⊎ refusal_code (coded⊎ (coded× refusal_code done_code) (coded× refusal_code job_code))

-- of a reply
abbrev pub reply_code : Coded Reply
reply_code =
    code_by ReplyParts
    (coded⊎ coded_ℕ (coded⊎ (coded× coded_ℕ coded_ℕ)
    (coded⊎ job_code (coded⊎ authenticator_code (coded⊎ told_code refused_code)))))
    reply_parts reply_of_parts reply_parts_back

-- of an event with its reply
abbrev pub note_code : Coded (Event × Reply)
note_code = coded× event_code reply_code
