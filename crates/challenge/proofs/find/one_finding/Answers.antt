use Rattle.challenge.proofs.OneFinding.{one_is_found}
use Rattle.challenge.proofs.find.one_finding.Goals as goal

-- by the charge of the evidence
pub returns : goal.returns
returns c = one_is_found c.a_text_has_one_state.ensures.one
