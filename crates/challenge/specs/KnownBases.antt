-- Bases that were found good, with their states; and what checking a base's text answers.
use Rattle.std.specs.Prelude.{◌≡◌, ◌⊎◌, ℕ, List, Result, Ok, Err, Some, None, MatchResult}
use Rattle.xdr.specs.Item.{spelling}
use Rattle.xdr.specs.Texts.Text.{text_at}
use Rattle.authenticator.specs.declared.member.LogVersion.{LogVersion}
use Rattle.authenticator.specs.declared.member.Member.{Member}
use Rattle.authenticator.specs.declared.refusal.Refusal.{Refusal}
use Rattle.authenticator.specs.declared.refusal.Refusal.TheVariants.{BadSignature, Garbage, NoMemory}
use Rattle.authenticator.specs.declared.refusal.Refusal.TheVariants.{UnknownNode}
use Rattle.authenticator.specs.Roster.{member_of}
use Rattle.authenticator.specs.Signed.{IsSignedBy}
use Rattle.replay.specs.replay_spec.state_spec.State.{State}
use Rattle.replay.specs.replay_spec.state_spec.StateText.{said, spelled_text}
use Rattle.evidence_showings.specs.Showings.{Ends, SaysNoMore}
use Rattle.evidence_showings.specs.evidence_spec.Base.{BaseParts, HasState, IsBaseOf, IsGoodBase, base_text}
use Rattle.evidence_showings.specs.evidence_spec.Base.{base_value}
use Rattle.evidence_showings.specs.evidence_spec.Showing.{ShowingParts}

-- a base, with its state in the place of the state's text
pub record KnownBase : Type 0 where
  pub log_version : LogVersion
  pub showing : ShowingParts
  pub at : ℕ
  pub state : State

-- the base that has the state's text
abbrev pub parts_of : KnownBase → BaseParts
parts_of k = record {
  log_version = k.log_version;
  showing = k.showing;
  at = k.at;
  state = spelling spelled_text.item (said k.state);
}

-- A base ends in its closing, and has a state.
pub record IsSound (b : BaseParts) (s : State) : Type 0 where
  pub ends : Ends b.log_version b.showing
  pub state : HasState b s

-- The bytes are the text of a base, which says no more than they do.
pub record IsTextOf (bytes : List ℕ) (b : BaseParts) : Type 0 where
  pub text : text_at base_text bytes ≡ Some (base_value b)
  pub written : SaysNoMore b.log_version b.showing

-- The bytes are the text of a base that is good under a roster, of this member and with this state.
pub record IsGoodText (ms : List Member) (bytes : List ℕ) (b : BaseParts) (m : Member) (s : State) : Type 0 where
  pub is : IsTextOf bytes b
  pub good : IsGoodBase ms b m s

-- What is known of a base is that it says this, with this state, and is of this member.
pub record IsKnown (b : BaseParts) (m : Member) (s : State) (k : KnownBase) (member : Member) : Type 0 where
  pub parts : parts_of k ≡ b
  pub state : k.state ≡ s
  pub is_member : member ≡ m

-- They are the text of a base that doesn't end in its closing, or has no state.
pub record IsUnsound (bytes : List ℕ) : Type 0 where
  pub base : BaseParts
  pub is : IsTextOf bytes base
  pub none : (s : State) → ¬ IsSound base s

-- They are the text of a base with a state, of a member whose log is of another version, or that is of
-- another kind.
pub record IsOfAnother (ms : List Member) (bytes : List ℕ) : Type 0 where
  pub base : BaseParts
  pub state : State
  pub member : Member
  pub is : IsTextOf bytes base
  pub sound : IsSound base state
  pub is_member : member_of ms base.showing.node ≡ Some member
  pub differs : ¬ IsBaseOf base state member

-- They are the text of a base with a state, of a node that is no member.
pub record IsOfStranger (ms : List Member) (bytes : List ℕ) : Type 0 where
  pub base : BaseParts
  pub state : State
  pub is : IsTextOf bytes base
  pub sound : IsSound base state
  pub stranger : member_of ms base.showing.node ≡ None

-- They are the text of a base with a state, which is of a member in all else but that it isn't signed by it.
pub record IsUnsigned (ms : List Member) (bytes : List ℕ) : Type 0 where
  pub base : BaseParts
  pub state : State
  pub member : Member
  pub is : IsTextOf bytes base
  pub sound : IsSound base state
  pub is_member : member_of ms base.showing.node ≡ Some member
  pub of_member : IsBaseOf base state member
  pub unsigned : ¬ IsSignedBy member base.showing.closing

-- Why a base's text is refused: Garbage where the bytes are no base's text, or that of one that doesn't end in its
-- closing, or has no state, or is not of its member; UnknownNode where its node is no member; else BadSignature where
-- that one didn't sign it.
abbrev pub RefusesBase : (ms : List Member) (bytes : List ℕ) → Refusal → Type 0
RefusesBase ms bytes Garbage = (text_at base_text bytes ≡ None) ⊎ (IsUnsound bytes ⊎ IsOfAnother ms bytes)
RefusesBase ms bytes UnknownNode = IsOfStranger ms bytes
RefusesBase ms bytes BadSignature = IsUnsigned ms bytes
RefusesBase ms bytes NoMemory = Unit {0}

-- What checking a base's text answers: the base with its state, and the member; or why it is refused.
abbrev pub ChecksBase : {C : Type 0} (ms : List Member) (bytes : List ℕ) (value : C → KnownBase)
    (member : C → Member) → Result C Refusal → Type 0
ChecksBase ms bytes value member (Ok c) =
    IsGoodText ms bytes (parts_of (value c)) (member c) (value c).state
ChecksBase ms bytes value member (Err refusal) = RefusesBase ms bytes refusal

-- The text of a good base is taken, as that base with its state and member, unless memory ran out.
abbrev pub TakesGood : {C : Type 0} (ms : List Member) (bytes : List ℕ) (value : C → KnownBase)
    (member : C → Member) → Result C Refusal → Type 0
TakesGood ms bytes value member result =
    (b : BaseParts) (m : Member) (s : State) → IsGoodText ms bytes b m s
    → MatchResult result (λ c. IsKnown b m s (value c) (member c)) (λ e. e ≡ NoMemory)
