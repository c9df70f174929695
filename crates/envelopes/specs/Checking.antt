-- What it means to check the texts of envelopes and acknowledgements.
use Rattle.std.specs.Prelude.{◌≡◌, ◌⊎◌, ℕ, List, Result, Ok, Err, Some, None, IsSome}
use Rattle.xdr.specs.Texts.Text.{text_at}
use Rattle.secure_log.specs.authenticator.Roster.{member_of}
use Rattle.secure_log.specs.authenticator.Signed.{IsSignedBy}
use Rattle.secure_log.specs.authenticator.declared.member.Member.{Member}
use Rattle.secure_log.specs.authenticator.declared.refusal.Refusal.{Refusal}
use Rattle.secure_log.specs.authenticator.declared.refusal.Refusal.TheVariants.{UnknownNode, Garbage}
use Rattle.secure_log.specs.authenticator.declared.refusal.Refusal.TheVariants.{BadSignature, NoMemory}
use Rattle.envelopes.specs.declared.envelope.Envelope.{Envelope}
use Rattle.envelopes.specs.declared.acknowledgement.Ack.{Ack}
use Rattle.envelopes.specs.Envelope.{envelope_text, envelope_value, envelope_shows}
use Rattle.envelopes.specs.Acknowledgement.{ack_text, ack_value, ack_shows}

-- The bytes are the text of this envelope.
abbrev pub IsTextOf : List ℕ → Envelope → Type 0
IsTextOf bytes e = text_at envelope_text bytes ≡ Some (envelope_value e)

-- They are the text of an envelope from one node to another.
pub record IsBetween (bytes : List ℕ) (e : Envelope) : Type 0 where
  pub text : IsTextOf bytes e
  pub two : ¬ (e.from ≡ e.to)

-- The envelope goes from a member of the roster, this one, to another.
pub record IsBetweenMembers (ms : List Member) (bytes : List ℕ) (e : Envelope) (m : Member) : Type 0 where
  pub between : IsBetween bytes e
  pub sender : member_of ms e.from ≡ Some m
  pub receiver : IsSome (member_of ms e.to)

-- What a check of an envelope answers: it, with the member that signed it; or Garbage where the bytes are the
-- text of none, or its sender is its receiver; else UnknownNode where its sender or its receiver is no
-- member; else BadSignature where the sender didn't sign it.
abbrev pub ChecksEnvelope : {C : Type 0} (ms : List Member) (bytes : List ℕ)
    (value : C → Envelope) (member : C → Member) → Result C Refusal → Type 0
ChecksEnvelope ms bytes value member (Ok c) =
    IsBetweenMembers ms bytes (value c) (member c) × IsSignedBy (member c) (envelope_shows (value c))
ChecksEnvelope ms bytes value member (Err Garbage) =
    (text_at envelope_text bytes ≡ None) ⊎ ((e : Envelope) × (IsTextOf bytes e × (e.from ≡ e.to)))
ChecksEnvelope ms bytes value member (Err UnknownNode) =
    (e : Envelope) × (IsBetween bytes e × ((member_of ms e.from ≡ None) ⊎ (member_of ms e.to ≡ None)))
ChecksEnvelope ms bytes value member (Err BadSignature) =
    (e : Envelope) × ((m : Member) ×
    (IsBetweenMembers ms bytes e m × (¬ IsSignedBy m (envelope_shows e))))
ChecksEnvelope ms bytes value member (Err NoMemory) = Unit {0}

-- The bytes are the text of this acknowledgement.
abbrev pub IsAckText : List ℕ → Ack → Type 0
IsAckText bytes a = text_at ack_text bytes ≡ Some (ack_value a)

-- What a check of an acknowledgement answers: it, with the member that signed it; or Garbage where the bytes
-- are the text of none; else UnknownNode where who signs it is no member; else BadSignature where that one
-- didn't sign it.
abbrev pub ChecksAck : {C : Type 0} (ms : List Member) (bytes : List ℕ)
    (value : C → Ack) (member : C → Member) → Result C Refusal → Type 0
ChecksAck ms bytes value member (Ok c) =
    IsAckText bytes (value c) × (member_of ms (value c).by ≡ Some (member c))
    × IsSignedBy (member c) (ack_shows (value c))
ChecksAck ms bytes value member (Err Garbage) = text_at ack_text bytes ≡ None
ChecksAck ms bytes value member (Err UnknownNode) =
    (a : Ack) × (IsAckText bytes a × (member_of ms a.by ≡ None))
ChecksAck ms bytes value member (Err BadSignature) =
    (a : Ack) × ((m : Member) ×
    (IsAckText bytes a × (member_of ms a.by ≡ Some m) × (¬ IsSignedBy m (ack_shows a))))
ChecksAck ms bytes value member (Err NoMemory) = Unit {0}
