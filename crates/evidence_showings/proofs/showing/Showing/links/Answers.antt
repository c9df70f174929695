use Rattle.std.proofs.Common.{◌≤◌, length, subst}
use Rattle.evidence_spec.specs.secure_log.declared.segment.TheConstants.{MAX_ENTRIES}
use Rattle.evidence_spec.specs.Showing.{ShowingParts}
use Rattle.evidence_showings.specs.contracts.showing.Showing.{the_view}
use Rattle.evidence_showings.proofs.Words.{links_few}
use Rattle.evidence_showings.proofs.showing.Showing.links.Goals as goal

pub returns-clause-few : goal.returns-clause-few
returns-clause-few c = subst (λ (s : ShowingParts). length s.links ≤ MAX_ENTRIES) c.self.view_is
    (links_few (the_view c.self.inside) c.self.invariant)
