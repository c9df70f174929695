-- What follows of a call that reads a text, by its exact clause.
-- Serves: read_evidence, read_case.
use Rattle.std.proofs.Common.{◌≡◌, ℕ, true, false, List, Result, Ok, Err, refl}
use Rattle.std.specs.Prelude.{MatchResult}
use Rattle.xdr.specs.Item.{Value, IsBytes}
use Rattle.xdr.specs.Texts.Text.{Text, IsText, GivesText}
use Rattle.xdr.proofs.OfTexts.WholeTexts.{text_only}
use Rattle.challenge.specs.declared.fault.EvidenceFault.{EvidenceFault}
use Rattle.challenge.specs.declared.fault.EvidenceFault.TheVariants.{Garbage, NoMemory}
use Rattle.challenge.specs.FaultNumbers.{is_garbage}

-- the value of the text is what a call gives, unless it is out of memory
pub only_by_text : {X : Type 0} (t : Text) (view : X → Value t.item) (bytes : List ℕ)
    (r : Result X EvidenceFault)
    → IsBytes bytes → GivesText is_garbage t view bytes r → (v : Value t.item) → IsText t v bytes
    → MatchResult r (λ x. view x ≡ v) (λ e. e ≡ NoMemory)
only_by_text t view bytes (Ok x) bound given v h = text_only is_garbage t view bytes (Ok x) bound given v h
only_by_text t view bytes (Err NoMemory) bound given v h = refl
only_by_text t view bytes (Err Garbage) bound given v h =
    let none : true ≡ false = text_only is_garbage t view bytes (Err Garbage) bound given v h in absurd cc
