-- Bases that have texts, and as they stand in one.
use Rattle.std.specs.Prelude.{◌<◌, ◌≤◌, ◌^◌, ℕ, IsTrue, List, length}
use Rattle.xdr.specs.Item.{Value, Fits}
use Rattle.authenticator.specs.declared.member.LogVersion.TheVariants.{One, Two}
use Rattle.evidence_spec.specs.Base.{BaseParts, MAX_STATE, base_item, base_text, base_value, begun_item}
use Rattle.evidence_showings.specs.Plain.{PlainParts, plain_value}
use Rattle.evidence_showings.specs.Worded.{WordedParts, worded_value}

-- A base has a text: each part of it has a spelling, and in a log of version 2 the words of its showing
-- follow.
pub record HasBaseText (b : BaseParts) : Type 0 where
  pub fits : Fits base_item (base_value b)
  pub follow : IsTrue (base_text.test (base_value b))

-- the bytes of a state are so few that a base may have them
abbrev pub IsShortState : List ℕ → Type 0
IsShortState state = (length state < 2 ^ 32) × (length state ≤ MAX_STATE)

-- what stands after the version's number of a base of a log of version 1
pub record PlainBaseParts : Type 0 where
  pub showing : PlainParts
  pub at : ℕ
  pub state : List ℕ

-- of one of version 2, each link with its entry's word
pub record WordedBaseParts : Type 0 where
  pub showing : WordedParts
  pub at : ℕ
  pub state : List ℕ

-- both, as their text's values
abbrev pub plain_base_value : PlainBaseParts → Value (begun_item One)
plain_base_value b = (plain_value b.showing, (b.at, b.state))

abbrev pub worded_base_value : WordedBaseParts → Value (begun_item Two)
worded_base_value b = (worded_value b.showing, (b.at, b.state))
