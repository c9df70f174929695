-- What was put on a shelf, before and after one more file was put there.
-- Serves: AuditOutput's put, put_file and put_evidence.
use Rattle.std.proofs.Common.{◌≡◌, ℕ, ◌<◌, List, [], ◌∷◌, length, Option, Some, None, Result, Ok, Err, sym}
use Rattle.std.proofs.Common.{subst}
use Rattle.std.proofs.Common.{◌∙◌, ◌+◌, ◌≤◌, arith, get_or, refl, suc, take}
use Rattle.std.proofs.lemmas.List.{take_all}
use Rattle.std.proofs.lemmas.List.Elements.{All-more, All-weaker}
use Rattle.std.specs.Arc.{arc_value}
use Rattle.std.specs.Prelude.{OnOk, OnErr, All, Contains, IfSome}
use Rattle.authenticator.specs.declared.member.Member.{Member}
use Rattle.witness_reports.specs.node_book.evidence_spec.Evidence.{EvidenceParts}
use Rattle.witness_calls.specs.Shelves.{Files, KeepsPut, Puts, WasPut}
use Rattle.witness_reports.specs.declared.report.NodeReport.{NodeReport}
use Rattle.auditing.specs.AuditOutputs.{AuditOutputParts, Goes, IsShown, WasEvidencePut, evidence_name}
use Rattle.auditing.specs.AuditOutputs.{evidence_text}

-- an element is one of a list with one more at its front
contains-more : {X : Type 0} (y : X) (xs : List X) (x : X) → Contains xs x → Contains (y ∷ xs) x
contains-more y xs x h = (suc h.0, omega (arith, h.1), h.2)

pub kept-same : (old new : Option Files) → new ≡ old → KeepsPut old new
kept-same old new same name bytes h = subst (λ (f : Option Files). WasPut f name bytes) (sym same) h

pub kept-put : (old : Option Files) (n b : List ℕ) (new : Option Files) → Puts old n b new → KeepsPut old new
kept-put None n b new is name bytes h = subst (λ (f : Option Files). WasPut f name bytes) (sym is) tt
kept-put (Some fs) n b new is name bytes h =
    subst (λ (f : Option Files). WasPut f name bytes) (sym is) (contains-more (n, b) fs (name, bytes) h)

-- what was put is there
pub was-put : (old : Option Files) (n b : List ℕ) (new : Option Files) → Puts old n b new → WasPut new n b
was-put None n b new is = subst (λ (f : Option Files). WasPut f n b) (sym is) tt
was-put (Some fs) n b new is =
    subst (λ (f : Option Files). WasPut f n b) (sym is) (0, omega arith, refl)

-- whether it was put or not
pub kept-by : {A E : Type 0} (old : Option Files) (n b : List ℕ) (new : Option Files) (r : Result A E)
    → OnOk r (Puts old n b new) → OnErr r (new ≡ old) → KeepsPut old new
kept-by old n b new (Ok x) put stays = kept-put old n b new put
kept-by old n b new (Err e) put stays = kept-same old new stays

-- the file of evidence is there once its text was put under its name
pub evidence-put : (old new : Option Files) (folder : List ℕ) (ms : List Member) (node : ℕ)
    (e : EvidenceParts) (name text : List ℕ) → name ≡ evidence_name folder node → text ≡ evidence_text ms e
    → Puts old name text new → WasEvidencePut new folder ms node e
evidence-put old new folder ms node e name text named says put =
    subst (λ (n : List ℕ). WasPut new n (evidence_text ms e)) named
    (subst (λ (b : List ℕ). WasPut new name b) says (was-put old name text new put))

-- ---- reports

-- one goes on from the other
pub goes-on : {S : Type 0} (files : S → Option Files) (a b c : AuditOutputParts S) → Goes files a b → Goes files b c
    → Goes files a c
goes-on files a b c first then = record {
  folder = then.folder ∙ first.folder;
  calm = λ h. first.calm (then.calm h);
  kept = λ name bytes h. then.kept name bytes (first.kept name bytes h);
}

evidence-kept : {X : Type 0} (say : X → EvidenceParts) (old new : Option Files) (folder : List ℕ)
    (ms : List Member) (node : ℕ) → KeepsPut old new → (e : Option X)
    → IfSome e (λ x. WasEvidencePut old folder ms node (say x))
    → IfSome e (λ x. WasEvidencePut new folder ms node (say x))
evidence-kept say old new folder ms node keeps None h = tt
evidence-kept say old new folder ms node keeps (Some x) h = keeps _ _ h

shown-kept : (old new : Option Files) (folder : List ℕ) (ms : List Member) → KeepsPut old new
    → (r : NodeReport) → IsShown old folder ms r → IsShown new folder ms r
shown-kept old new folder ms keeps r h = evidence-kept arc_value old new folder ms r.node keeps r.evidence h

-- the evidence of one report more is there
pub shown-more : (old new : Option Files) (folder : List ℕ) (ms : List Member) (rs : List NodeReport) (i : ℕ)
    (r : NodeReport) → i < length rs → r ≡ get_or rs i r → KeepsPut old new
    → All (IsShown old folder ms) (take i rs) → IsShown new folder ms r
    → All (IsShown new folder ms) (take (i + 1) rs)
shown-more old new folder ms rs i r lt is keeps all one =
    All-more (IsShown new folder ms) rs i r lt
    (All-weaker (IsShown old folder ms) (IsShown new folder ms) (shown-kept old new folder ms keeps) (take i rs) all)
    (subst (IsShown new folder ms) is one)

-- after the last report that of all is
pub shown-all : (new : Option Files) (folder : List ℕ) (ms : List Member) (rs : List NodeReport) (i : ℕ)
    → length rs ≤ i → All (IsShown new folder ms) (take i rs) → All (IsShown new folder ms) rs
shown-all new folder ms rs i end all =
    subst (λ (xs : List NodeReport). All (IsShown new folder ms) xs) (take_all i rs end) all
