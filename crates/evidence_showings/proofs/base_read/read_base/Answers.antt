use Rattle.std.proofs.Common.{◌≡◌, Err, Ok, Result, arith, false, refl}
use Rattle.std.specs.Prelude.{MatchResult}
use Rattle.xdr.specs.declared.texts.text.TextFault.{TextFault}
use Rattle.xdr.specs.declared.texts.text.TextFault.TheVariants.{NoMemory, NotAText}
use Rattle.xdr.specs.Texts.TextFault.{is_no_text}
use Rattle.xdr.proofs.OfTexts.WholeTexts.{text_found, text_only}
use Rattle.evidence_spec.specs.Base.{base_text, base_value}
use Rattle.evidence_showings.proofs.base_read.read_base.Goals as goal

no_memory : {X : Type 0} (P : X → Type 0) (r : Result X TextFault)
    → MatchResult r P (λ e. is_no_text e ≡ false) → MatchResult r P (λ e. e ≡ NoMemory)
no_memory P (Ok x) h = h
no_memory P (Err NoMemory) h = refl
no_memory P (Err NotAText) h = absurd cc

pub returns-clause-found : goal.returns-clause-found
returns-clause-found c =
    text_found is_no_text base_text base_value c.args.bytes.now c.base_of.result
    (λ i. omega (arith, c.type_inv.bytes i)) c.base_of.ensures.exact

pub returns-clause-only : goal.returns-clause-only
returns-clause-only c v h =
    no_memory _ c.base_of.result
    (text_only is_no_text base_text base_value c.args.bytes.now c.base_of.result
    (λ i. omega (arith, c.type_inv.bytes i)) c.base_of.ensures.exact v h)
