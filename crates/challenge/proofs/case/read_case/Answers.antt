use Rattle.std.proofs.Common.{◌≡◌, rules}
use Rattle.xdr.proofs.OfTexts.WholeTexts.{text_found}
use Rattle.challenge.specs.Cases.{case_text, case_value}
use Rattle.challenge.specs.FaultNumbers.{is_garbage}
use Rattle.challenge.proofs.Texts.{only_by_text}
use Rattle.challenge.proofs.case.read_case.Goals as goal

pub returns-clause-found : goal.returns-clause-found
returns-clause-found c =
    let same : c.deref.result.now ≡ c.args.bytes.items = search rules in
    text_found is_garbage case_text case_value c.args.bytes.items c.case_of.result (rw same at c.are_bytes.ensures) (rw c.new.ensures at c.case_of.ensures.text)

pub returns-clause-only : goal.returns-clause-only
returns-clause-only c =
    let same : c.deref.result.now ≡ c.args.bytes.items = search rules in
    only_by_text case_text case_value c.args.bytes.items c.case_of.result (rw same at c.are_bytes.ensures) (rw c.new.ensures at c.case_of.ensures.text)
