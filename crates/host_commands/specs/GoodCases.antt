-- Files of evidence that a witness sends.
use Rattle.std.specs.Prelude.{◌≡◌, ◌⊎◌, ℕ, Bool, true, false, List, Some, None}
use Rattle.xdr.specs.Texts.Text.{text_at}
use Rattle.authenticator.specs.declared.member.Member.{Member}
use Rattle.challenge.specs.Cases.{case_text, case_value}
use Rattle.challenge.specs.declared.case.Case.{Case}
use Rattle.challenge.specs.evidence_spec.Evidence.{Accepts}

-- A roster with evidence is good against a node under a roster: it is this roster, and the evidence is against this node
-- and accepted under it.
pub record IsGood (roster : List Member) (node : ℕ) (case : Case) : Type 0 where
  pub own : roster ≡ case.roster
  pub against : case.evidence.node ≡ node
  pub accepted : Accepts roster case.evidence

-- Bytes are the text of a roster, and then that of evidence, which are good.
pub record IsGoodCase (roster : List Member) (node : ℕ) (bytes : List ℕ) : Type 0 where
  pub case : Case
  pub text : text_at case_text bytes ≡ Some (case_value case)
  pub good : IsGood roster node case

-- They are the text of a roster, and then that of evidence, which aren't good.
pub record IsOtherCase (roster : List Member) (node : ℕ) (bytes : List ℕ) : Type 0 where
  pub case : Case
  pub text : text_at case_text bytes ≡ Some (case_value case)
  pub bad : IsGood roster node case → ⊥

-- Bytes are called good only where they are that, and not good only where they aren't the text of any roster and
-- evidence, or of such as aren't good.
abbrev pub IsJudged : (roster : List Member) (node : ℕ) (bytes : List ℕ) → Bool → Type 0
IsJudged roster node bytes true = IsGoodCase roster node bytes
IsJudged roster node bytes false = (text_at case_text bytes ≡ None) ⊎ IsOtherCase roster node bytes
