use Rattle.std.proofs.Common.{◌∙◌, ap, sym}
use Rattle.evidence_spec.specs.Showing.{links_follow, showing_value}
use Rattle.evidence_showings.proofs.base_text.words_follow.Goals as goal

pub returns-in-Two : goal.returns-in-Two
returns-in-Two c = c.has_words.ensures.follow
    ∙ ap (λ v. links_follow v (showing_value v c.args.showing.now)) (sym c.in-Two.is)
