use Rattle.std.proofs.Common.{◌∙◌, sym}
use Rattle.challenge.proofs.BasedTexts.{whole_based}
use Rattle.challenge.proofs.based.BasedReplay.is_whole.Goals as goal

pub returns : goal.returns
returns c =
    let text = rw c.base-base.ensures at c.has_text.ensures in
    let whole = rw c.log-log.ensures.log at c.is_whole.ensures in
    whole ∙ sym (whole_based c.args.self.now.base c.args.self.now.log text c.log-log.ensures.version)
