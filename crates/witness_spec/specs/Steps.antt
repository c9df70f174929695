-- The steps of one node: events that are its own, without what tells whose they are.
use Rattle.std.specs.Prelude.{List}
use Rattle.authenticator.specs.declared.authenticator.Authenticator.{Authenticator}
use Rattle.authenticator.specs.declared.member.Member.{Member}
use Rattle.secure_log.specs.Versioned.{ClosedParts}
use Rattle.packets.specs.envelopes.declared.envelope.Envelope.{Envelope}
use Rattle.packets.specs.envelopes.declared.acknowledgement.Ack.{Ack}
use Rattle.witness_spec.specs.Events.{JobParts, DoneParts, Question}
use Rattle.witness_spec.specs.Replies.{Reply}

-- a step of one node's books
pub data Step : Type 0 where
  Learn : Authenticator → Step
  SendChallenge : Envelope → Step
  Answer : ClosedParts → Step
  AckIn : Ack → Step
  Audit : Step
  Begin : Step
  File : DoneParts → Step
  PutBack : JobParts → Step
  Forward : Step
  Ask : Question → Step

-- a step, and the member whose it is
pub record OwnStep : Type 0 where
  pub member : Member
  pub step : Step

-- one node's own steps with their replies, the newest first
abbrev pub Past : Type 0
Past = List (Step × Reply)
