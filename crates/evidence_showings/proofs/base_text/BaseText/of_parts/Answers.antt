use Rattle.evidence_showings.proofs.Bases.{has_base}
use Rattle.evidence_showings.proofs.base_text.BaseText.of_parts.Goals as goal

pub invariant_of-result : goal.invariant_of-result
invariant_of-result c = has_base c.args.log_version c.args.showing c.args.at c.args.state.items c.has_text.ensures
    c.requires.words c.fits.ensures c.requires.short
