-- What is said of bytes that hold a case.
-- Serves: judge, explain.
use Rattle.std.proofs.Common.{◌≡◌, ℕ, List, Option, Some}
use Rattle.xdr.specs.Texts.Text.{text_at}
use Rattle.authenticator.specs.declared.member.Member.{Member}
use Rattle.challenge.specs.Cases.{case_text, case_value}
use Rattle.challenge.specs.Charges.{IsWritten}
use Rattle.challenge.specs.declared.case.Case.{Case}
use Rattle.console.specs.Checking.{Judges, JudgesCase}
use Rattle.console.specs.declared.checking.Judgement.{Judgement}
use Rattle.console.specs.declared.checking.Judgement.TheVariants.{Exposed, NoEvidence}
use Rattle.console.specs.declared.checking.Reason.TheVariants as reason

-- what judges the case that bytes hold judges the bytes
pub of_case : (trusted : Option (List Member)) (bytes : List ℕ) (c : Case) (judgement : Judgement)
    → text_at case_text bytes ≡ Some (case_value c) → IsWritten c.evidence.charge → JudgesCase trusted c judgement
    → Judges trusted bytes judgement
of_case trusted bytes c (Exposed node) text written says =
    record { case = c; text = text; written = written; judged = says }
of_case trusted bytes c (NoEvidence (reason.NoCase at)) text written says = absurd says
of_case trusted bytes c (NoEvidence reason.AnotherRoster) text written says =
    record { case = c; text = text; written = written; judged = says }
of_case trusted bytes c (NoEvidence (reason.NotAccepted why)) text written says =
    record { case = c; text = text; written = written; judged = says }
