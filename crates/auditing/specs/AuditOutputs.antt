-- The output of audits: where files go, the folder for evidence, what went wrong; and what is put there.
use Rattle.std.specs.Prelude.{◌≡◌, ℕ, List, ◌++◌, Option, IfSome, codes, decimal}
use Rattle.std.specs.Arc.{arc_value}
use Rattle.xdr.specs.Item.{spelling}
use Rattle.authenticator.specs.Roster.{roster_value}
use Rattle.authenticator.specs.declared.member.Member.{Member}
use Rattle.witness_reports.specs.node_book.challenge.Cases.{case_item}
use Rattle.witness_reports.specs.node_book.evidence_spec.Evidence.{EvidenceParts, evidence_value}
use Rattle.witness_calls.specs.Shelves.{Files, WasPut, KeepsPut}
use Rattle.witness_reports.specs.declared.report.NodeReport.{NodeReport}
use Rattle.auditing.specs.declared.trouble.Trouble.{Trouble}
use Rattle.auditing.specs.declared.trouble.Trouble.TheVariants.{None}

-- What a caller sees of it.
pub record AuditOutputParts (S : Type 0) : Type 0 where
  -- where files are put
  pub shelf : S
  -- the name of the folder that evidence goes to, if one is named
  pub folder : Option (List ℕ)
  -- what went wrong so far
  pub trouble : Trouble

-- the name of the file with the evidence against a node
abbrev pub evidence_name : (folder : List ℕ) → (node : ℕ) → List ℕ
evidence_name folder node = folder ++ (codes "/node-" ++ (decimal node ++ codes ".evidence"))

-- the text of such a file: the roster's, and after it that of the evidence (RFC 4506)
abbrev pub evidence_text : List Member → EvidenceParts → List ℕ
evidence_text ms e = spelling case_item (roster_value ms, evidence_value e)

-- The file of evidence against a node was put there.
abbrev pub WasEvidencePut : Option Files → (folder : List ℕ) → List Member → (node : ℕ) → EvidenceParts → Type 0
WasEvidencePut files folder ms node e = WasPut files (evidence_name folder node) (evidence_text ms e)

-- Where a report has evidence, its file was put there.
abbrev pub IsShown : Option Files → (folder : List ℕ) → List Member → NodeReport → Type 0
IsShown files folder ms r = IfSome r.evidence (λ e. WasEvidencePut files folder ms r.node (arc_value e))

-- A step keeps the folder and what was put before. Where nothing has gone wrong after it, nothing had
-- before.
pub record Goes {S : Type 0} (files : S → Option Files) (old new : AuditOutputParts S) : Type 0 where
  pub folder : new.folder ≡ old.folder
  pub calm : new.trouble ≡ None → old.trouble ≡ None
  pub kept : KeepsPut (files old.shelf) (files new.shelf)
