use Rattle.std.proofs.Common.{◌≡◌, rules}
use Rattle.xdr.proofs.OfTexts.WholeTexts.{text_found}
use Rattle.evidence_showings.specs.evidence_spec.Evidence.{evidence_text, evidence_value}
use Rattle.challenge.specs.FaultNumbers.{is_garbage}
use Rattle.challenge.proofs.Texts.{only_by_text}
use Rattle.challenge.proofs.read.read_evidence.Goals as goal

pub returns-clause-found : goal.returns-clause-found
returns-clause-found c =
    let same : c.deref.result.now ≡ c.args.bytes.items = search rules in
    text_found is_garbage evidence_text evidence_value c.args.bytes.items c.evidence_of.result (rw same at c.are_bytes.ensures) (rw c.new.ensures at c.evidence_of.ensures.text)

pub returns-clause-only : goal.returns-clause-only
returns-clause-only c =
    let same : c.deref.result.now ≡ c.args.bytes.items = search rules in
    only_by_text evidence_text evidence_value c.args.bytes.items c.evidence_of.result (rw same at c.are_bytes.ensures) (rw c.new.ensures at c.evidence_of.ensures.text)
