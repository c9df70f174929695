use Rattle.std.proofs.Common.{◌≡◌, arith}
use Rattle.evidence_showings.proofs.Bases.{has_base}
use Rattle.evidence_showings.proofs.base_write.write_base.Goals as goal

pub returns-clause-has : goal.returns-clause-has
returns-clause-has c = has_base c.args.log_version c.args.showing.now c.args.at c.args.state.now
    c.has_text.ensures c.requires.words c.fits.ensures (omega (arith, c.requires.few), c.requires.few)
