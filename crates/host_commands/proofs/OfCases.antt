-- What is judged of a file of evidence.
-- Serves: is_good, is_good_case.
use Rattle.std.proofs.Common.{◌≡◌, ◌⊎◌, ◌↔◌, ℕ, Bool, true, false, List, Some, None, inl, inr, refl}
use Rattle.std.specs.Prelude.{IsTrue}
use Rattle.xdr.specs.Texts.Text.{text_at}
use Rattle.authenticator.specs.declared.member.Member.{Member}
use Rattle.challenge.specs.Cases.{case_text, case_value}
use Rattle.challenge.specs.declared.case.Case.{Case}
use Rattle.challenge.specs.evidence_spec.Evidence.{Accepts}
use Rattle.host_commands.specs.GoodCases.{IsGood, IsJudged}

-- bytes that are no text aren't good
pub no_text : (roster : List Member) (node : ℕ) (bytes : List ℕ) → text_at case_text bytes ≡ None
    → IsJudged roster node bytes false
no_text roster node bytes none = inl none

-- of a text that is there they are judged as the case is
pub judged : (roster : List Member) (node : ℕ) (bytes : List ℕ) (case : Case) (good : Bool)
    → text_at case_text bytes ≡ Some (case_value case) → (IsTrue good ↔ IsGood roster node case)
    → IsJudged roster node bytes good
judged roster node bytes case true text exact = record { case = case; text = text; good = exact.0 refl }
judged roster node bytes case false text exact =
    inr (record { case = case; text = text; bad = λ is. absurd (no (exact.1 is)) })
  where
    no : false ≡ true → ⊥
    no e = cc

-- a case is good where its evidence is accepted
pub is_good : (roster : List Member) (node : ℕ) (case : Case) (good : Bool) → roster ≡ case.roster
    → case.evidence.node ≡ node → (IsTrue good ↔ Accepts roster case.evidence)
    → (IsTrue good ↔ IsGood roster node case)
is_good roster node case good own against exact = (
  λ yes. record { own = own; against = against; accepted = exact.0 yes },
  λ is. exact.1 is.accepted,
)
