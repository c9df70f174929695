-- What a witness answers.
use Rattle.std.specs.Prelude.{ℕ, Bool, true, false, List, Option}
use Rattle.authenticator.specs.declared.authenticator.Authenticator.{Authenticator}
use Rattle.packets.specs.envelopes.declared.envelope.Envelope.{Envelope}
use Rattle.evidence_spec.specs.Evidence.{EvidenceParts}
use Rattle.witness_spec.specs.Refusals as refusals
use Rattle.witness_spec.specs.Events.{Event, JobParts, DoneParts}
use Rattle.witness_spec.specs.Events as events

-- what a witness says of a node (PeerReview, SOSP 2007: failure indications)
pub data Indication : Type 0 where
  Trusted : Indication
  Suspected : Indication
  Exposed : Indication

-- What a node is asked to answer: a segment of its log, from a number to another; or a message that it is to
-- acknowledge (PeerReview, SOSP 2007: challenges).
pub data Challenge : Type 0 where
  AuditOf : (first last : ℕ) → Challenge
  SendOf : Envelope → Challenge

-- what a witness replies to an event
pub data Reply : Type 0 where
  Noted : Reply
  Already : Reply
  Opened : Reply
  Accepted : Reply
  Closed : Reply
  Asked : (first last : ℕ) → Reply
  Job : JobParts → Reply
  Filed : Reply
  Returned : Reply
  Forwarded : Authenticator → Reply
  Empty : Reply
  Told : Indication → Reply
  OpenList : List Challenge → Reply
  EvidenceIs : Option EvidenceParts → Reply
  Refused : refusals.Refusal → Reply
  -- a value that must be spent comes back with the refusal
  FileRefused : refusals.Refusal → DoneParts → Reply
  PutBackRefused : refusals.Refusal → JobParts → Reply

-- an event is refused
abbrev pub refused : Event → refusals.Refusal → Reply
refused (events.Deliver bytes) refusal = Refused refusal
refused (events.Learn a key) refusal = Refused refusal
refused (events.SendChallenge e key) refusal = Refused refusal
refused (events.Answer c) refusal = Refused refusal
refused (events.AckIn a key) refusal = Refused refusal
refused (events.Audit node) refusal = Refused refusal
refused (events.Begin node) refusal = Refused refusal
refused (events.File d) refusal = FileRefused refusal d
refused (events.PutBack j) refusal = PutBackRefused refusal j
refused (events.Forward node) refusal = Refused refusal
refused (events.Ask node question) refusal = Refused refusal

-- the refusal says that memory ran out
abbrev pub is_want : refusals.Refusal → Bool
is_want refusals.NoMemory = true
is_want _ = false

-- the reply says that memory ran out
abbrev pub is_want_of_memory : Reply → Bool
is_want_of_memory (Refused refusal) = is_want refusal
is_want_of_memory (FileRefused refusal d) = is_want refusal
is_want_of_memory (PutBackRefused refusal j) = is_want refusal
is_want_of_memory _ = false
