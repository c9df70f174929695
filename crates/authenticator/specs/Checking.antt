-- What it means to check an authenticator's text.
use Rattle.std.specs.Prelude.{◌≡◌, List, ℕ, Result, Ok, Err, Some, None}
use Rattle.xdr.specs.Texts.Text.{text_at}
use Rattle.authenticator.specs.Roster.{member_of}
use Rattle.authenticator.specs.Signed.{IsSignedBy, authenticator_text, authenticator_value}
use Rattle.authenticator.specs.declared.member.Member.{Member}
use Rattle.authenticator.specs.declared.authenticator.Authenticator.{Authenticator}
use Rattle.authenticator.specs.declared.refusal.Refusal.{Refusal}
use Rattle.authenticator.specs.declared.refusal.Refusal.TheVariants.{UnknownNode, Garbage, BadSignature}
use Rattle.authenticator.specs.declared.refusal.Refusal.TheVariants.{NoMemory}

-- The bytes are the text of an authenticator that names this member of the roster.
pub record IsFrom (ms : List Member) (bytes : List ℕ) (a : Authenticator) (m : Member) : Type 0 where
  pub text : text_at authenticator_text bytes ≡ Some (authenticator_value a)
  pub member : member_of ms a.node ≡ Some m

-- The bytes are the text of an authenticator that names no member of the roster.
pub record IsFromStranger (ms : List Member) (bytes : List ℕ) (a : Authenticator) : Type 0 where
  pub text : text_at authenticator_text bytes ≡ Some (authenticator_value a)
  pub stranger : member_of ms a.node ≡ None

-- What a check answers: the authenticator with the member that signed it; or Garbage where the bytes are no
-- text of one, else UnknownNode where it names no member, else BadSignature where it isn't signed by that
-- one.
abbrev pub Checks : {C : Type 0} (ms : List Member) (bytes : List ℕ)
    (value : C → Authenticator) (member : C → Member) → Result C Refusal → Type 0
Checks ms bytes value member (Ok c) = IsFrom ms bytes (value c) (member c) × IsSignedBy (member c) (value c)
Checks ms bytes value member (Err Garbage) = text_at authenticator_text bytes ≡ None
Checks ms bytes value member (Err UnknownNode) = (a : Authenticator) × IsFromStranger ms bytes a
Checks ms bytes value member (Err BadSignature) =
    (a : Authenticator) × ((m : Member) × (IsFrom ms bytes a m × (¬ IsSignedBy m a)))
Checks ms bytes value member (Err NoMemory) = Unit {0}
