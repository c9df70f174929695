use Rattle.std.proofs.Common.{◌≤◌, length, subst}
use Rattle.evidence_spec.specs.Base.{BaseParts, MAX_STATE}
use Rattle.evidence_showings.specs.contracts.base_text.BaseText.{the_view}
use Rattle.evidence_showings.proofs.Bases.{base_short}
use Rattle.evidence_showings.proofs.base_text.BaseText.state.Goals as goal

pub returns-clause-few : goal.returns-clause-few
returns-clause-few c = subst (λ (b : BaseParts). length b.state ≤ MAX_STATE) c.self.view_is
    (base_short (the_view c.self.inside) c.self.invariant).1
