use Rattle.evidence_showings.proofs.Bases.{base_words}
use Rattle.evidence_showings.proofs.base_text.BaseText.write.Goals as goal

pub write_base-requires-clause-words : goal.write_base-requires-clause-words
write_base-requires-clause-words c = rw (c.log_version.ensures, c.showing.ensures) (base_words c.args.self.now c.has_text.ensures)

pub returns : goal.returns
returns c =
    let written = rw (c.log_version.ensures, c.showing.ensures, c.at.ensures, c.state.ensures.state) at c.write_base.ensures.text in
    written
