-- What a step did, by its reply: each is None where the step did nothing of the kind.
use Rattle.std.specs.Prelude.{ℕ, Option, Some, None}
use Rattle.authenticator.specs.declared.authenticator.Authenticator.{Authenticator}
use Rattle.secure_log.specs.Versioned.{ClosedParts}
use Rattle.packets.specs.envelopes.declared.envelope.Envelope.{Envelope}
use Rattle.packets.specs.envelopes.declared.acknowledgement.Ack.{Ack}
use Rattle.witness_spec.specs.Events.{JobParts}
use Rattle.witness_spec.specs.Replies.{Reply, Noted, Opened, Accepted, Closed, Asked, Job, Filed, Returned}
use Rattle.witness_spec.specs.Replies.{Forwarded}
use Rattle.witness_spec.specs.Steps.{Step, Learn, SendChallenge, Answer, AckIn, Audit, Begin, File, PutBack}
use Rattle.witness_spec.specs.Steps.{Forward}

-- the authenticator of a Learn that was answered Noted
abbrev pub noted : Step → Reply → Option Authenticator
noted (Learn a) Noted = Some a
noted _ _ = None

-- the envelope of a send challenge that was opened
abbrev pub opened : Step → Reply → Option Envelope
opened (SendChallenge e) Opened = Some e
opened _ _ = None

-- the segment of an answer that was accepted
abbrev pub accepted : Step → Reply → Option ClosedParts
accepted (Answer c) Accepted = Some c
accepted _ _ = None

-- the acknowledgement that closed a send challenge
abbrev pub closed : Step → Reply → Option Ack
closed (AckIn a) Closed = Some a
closed _ _ = None

-- the first and the last number that an audit asked for
abbrev pub asked : Step → Reply → Option (ℕ × ℕ)
asked Audit (Asked first last) = Some (first, last)
asked _ _ = None

-- the job that a Begin gave
abbrev pub begun : Step → Reply → Option JobParts
begun Begin (Job j) = Some j
begun _ _ = None

-- the job of a done value that was filed
abbrev pub filed : Step → Reply → Option JobParts
filed (File d) Filed = Some d.job
filed _ _ = None

-- the job that was put back
abbrev pub returned : Step → Reply → Option JobParts
returned (PutBack j) Returned = Some j
returned _ _ = None

-- the authenticator that was forwarded
abbrev pub forwarded : Step → Reply → Option Authenticator
forwarded Forward (Forwarded a) = Some a
forwarded _ _ = None
