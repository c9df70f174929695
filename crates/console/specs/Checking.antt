-- What a check of a file says.
use Rattle.std.specs.Prelude.{◌≡◌, ◌⊎◌, ℕ, List, [], ◌∷◌, ◌++◌, Option, Some, None, IfSome, codes, decimal}
use Rattle.std.specs.Io.KnownBytes.{Appends}
use Rattle.xdr.specs.Texts.Text.{text_at}
use Rattle.rpc.specs.Records.Writing.{WritesFront}
use Rattle.authenticator.specs.Roster.{roster_text, roster_value}
use Rattle.authenticator.specs.declared.member.Member.{Member}
use Rattle.challenge.specs.evidence_spec.Evidence.{Accepts}
use Rattle.challenge.specs.evidence_spec.Proving.{Proves}
use Rattle.challenge.specs.Cases.{case_text, case_value}
use Rattle.challenge.specs.Charges.{IsWritten}
use Rattle.challenge.specs.Findings.{Finds}
use Rattle.challenge.specs.declared.case.Case.{Case}
use Rattle.challenge.specs.declared.finding.Finding.TheVariants as finding
use Rattle.explain.specs.Shown.{IsShown}
use Rattle.explain.specs.Lacks.{IsLack, lacking}
use Rattle.console.specs.declared.checking.Judgement.{Judgement}
use Rattle.console.specs.declared.checking.Judgement.TheVariants.{Exposed, NoEvidence}
use Rattle.console.specs.declared.checking.Reason.{Reason}
use Rattle.console.specs.declared.checking.Reason.TheVariants as reason
use Rattle.console.specs.declared.checking.Format.{Format}
use Rattle.console.specs.declared.checking.Format.TheVariants.{Line, Lines, Json}
use Rattle.console.specs.declared.fault.CheckFault.{CheckFault}
use Rattle.console.specs.declared.fault.CheckFault.TheVariants as fault

-- a roster is the one that is trusted, if one is
abbrev pub IsTrusted : Option (List Member) → List Member → Type 0
IsTrusted trusted roster = IfSome trusted (λ t. t ≡ roster)

-- ---- what is said of a case

-- it is of the trusted roster, and its evidence is accepted, or not: then it lacks this first
abbrev pub JudgesReason : Option (List Member) → Case → Reason → Type 0
JudgesReason trusted c (reason.NoCase at) = ⊥
JudgesReason trusted c reason.AnotherRoster = ¬ IsTrusted trusted c.roster
JudgesReason trusted c (reason.NotAccepted why) =
    IsTrusted trusted c.roster × (¬ Accepts c.roster c.evidence)
    × Finds c.roster c.evidence (finding.NotAccepted (lacking why))
    × IsLack c.roster c.evidence why

abbrev pub JudgesCase : Option (List Member) → Case → Judgement → Type 0
JudgesCase trusted c (Exposed node) =
    IsTrusted trusted c.roster × (c.evidence.node ≡ node) × Accepts c.roster c.evidence
    × Proves c.roster c.evidence
JudgesCase trusted c (NoEvidence why) = JudgesReason trusted c why

-- ---- what is said of bytes

-- The bytes are a roster's text with that of evidence after it, which says no more than its text, and of
-- which this is said. Exposed: it is against this node, accepted under that roster, and so proves that no log
-- of the node is honest.
pub record JudgesText (trusted : Option (List Member)) (bytes : List ℕ) (judgement : Judgement) : Type 0 where
  pub case : Case
  pub text : text_at case_text bytes ≡ Some (case_value case)
  pub written : IsWritten case.evidence.charge
  pub judged : JudgesCase trusted case judgement

abbrev pub Judges : Option (List Member) → List ℕ → Judgement → Type 0
Judges trusted bytes (NoEvidence (reason.NoCase at)) = text_at case_text bytes ≡ None
Judges trusted bytes judgement = JudgesText trusted bytes judgement

-- they are no case's text
abbrev pub IsNoCase : Judgement → Type 0
IsNoCase (NoEvidence (reason.NoCase at)) = Unit {0}
IsNoCase judgement = ⊥

-- ---- the texts that tell it

-- its words
abbrev pub words_of : Judgement → List ℕ
words_of (Exposed node) = codes "exposed " ++ decimal node
words_of (NoEvidence why) = codes "no evidence"

-- a text in a form that leaves some bytes open, all of them such as a terminal shows as they are
pub record IsFormed (form : List ℕ → List ℕ) (text : List ℕ) : Type 0 where
  pub more : List ℕ
  pub shown : IsShown more
  pub whole : text ≡ form more

-- the line (10 ends it), with more after it
abbrev pub line_form : Judgement → List ℕ → List ℕ
line_form judgement more = words_of judgement ++ (10 ∷ more)

-- a JSON object whose first member is `verdict` (123 is a brace, 34 a quote, 58 a colon)
abbrev pub json_form : Judgement → List ℕ → List ℕ
json_form judgement more = (123 ∷ 34 ∷ codes "verdict")
    ++ (34 ∷ 58 ∷ 34 ∷ (words_of judgement ++ (34 ∷ more)))

-- what is told in a format
abbrev pub IsTold : Format → Judgement → List ℕ → Type 0
IsTold Line judgement text = text ≡ line_form judgement []
IsTold Lines judgement text = IsFormed (line_form judgement) text
IsTold Json judgement text = IsFormed (json_form judgement) text

-- such a text was written
pub record WritesTold (format : Format) (judgement : Judgement)
    (before after : Option (List ℕ)) : Type 0 where
  pub text : List ℕ
  pub told : IsTold format judgement text
  pub written : Appends before after text

-- a write failed: what an input shows was written in part, and not all of it
pub record TellsPart (trusted : Option (List Member)) (format : Format)
    (input before after : Option (List ℕ)) : Type 0 where
  pub judgement : Judgement
  pub text : List ℕ
  pub judged : IfSome input (λ bytes. Judges trusted bytes judgement)
  pub told : IsTold format judgement text
  pub written : WritesFront before after text

-- ---- faults

-- a read failed
abbrev pub IsRead : CheckFault → Type 0
IsRead (fault.Read error) = Unit {0}
IsRead _ = ⊥

-- ---- rosters in files

-- The bytes are the text of a case with this roster.
pub record HoldsCase (bytes : List ℕ) (roster : List Member) : Type 0 where
  pub case : Case
  pub text : text_at case_text bytes ≡ Some (case_value case)
  pub its : case.roster ≡ roster

-- they are the roster's text, or that of a case with it
abbrev pub HoldsRoster : List ℕ → List Member → Type 0
HoldsRoster bytes roster =
    (text_at roster_text bytes ≡ Some (roster_value roster)) ⊎ HoldsCase bytes roster

-- they are the text of neither
abbrev pub HoldsNone : List ℕ → Type 0
HoldsNone bytes = (text_at roster_text bytes ≡ None) × (text_at case_text bytes ≡ None)
