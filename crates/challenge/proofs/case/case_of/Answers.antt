use Rattle.std.proofs.Common.{rules}
use Rattle.std.proofs.lemmas.Result.{err_from_is_err_and}
use Rattle.authenticator.specs.Roster.{IsRoster, listed_value}
use Rattle.evidence_showings.specs.evidence_spec.Evidence.{evidence_value}
use Rattle.challenge.specs.FaultNumbers.{is_garbage}
use Rattle.challenge.proofs.CaseTexts.{no_roster_read_no_case, no_roster_no_case, no_evidence_no_case}
use Rattle.challenge.proofs.CaseTexts.{is_case}
use Rattle.challenge.proofs.case.case_of.Goals as goal

pub returns-in_err-listed-clause-text : goal.returns-in_err-listed-clause-text
returns-in_err-listed-clause-text c =
    let p = err_from_is_err_and c.from_residual.result c.from_residual.ensures.1 in
    rw (p.1, p.2) (no_roster_read_no_case c.args.source c.in_err-listed.field-0.0 c.in_err-listed.ensures)

pub returns-in_default-clause-text : goal.returns-in_default-clause-text
returns-in_default-clause-text c =
    no_roster_no_case c.args.source c.take_roster.new.source (listed_value c.in_ok-listed.listed) (rw c.rest.ensures at c.are_bytes.ensures) c.in_ok-listed.ensures
    c.in_default.ensures.none

pub returns-in_err-evidence-clause-text : goal.returns-in_err-evidence-clause-text
returns-in_err-evidence-clause-text c =
    let p = err_from_is_err_and c.from_residual-in_err-evidence.result c.from_residual-in_err-evidence.ensures.1 in
    rw (p.1, p.2) (no_evidence_no_case c.args.source c.take_roster.new.source (listed_value c.in_ok-listed.listed) (is_garbage c.in_err-evidence.field-0.0) c.in_ok-listed.ensures c.in_err-evidence.ensures.text)

-- the bytes are the text of a case: of the roster and the evidence that were read
pub returns-clause-text : goal.returns-clause-text
returns-clause-text c =
    let roster : IsRoster c.in-Some.roster = search rules in
    is_case c.args.source c.take_roster.new.source (listed_value c.in_ok-listed.listed) c.in-Some.roster (evidence_value c.in_ok-evidence.evidence) roster c.in-Some.ensures.some c.in_ok-listed.ensures c.in_ok-evidence.ensures.text
