use Rattle.std.proofs.Common.{◌∙◌}
use Rattle.watching.proofs.OfShown.{passed_shown}
use Rattle.watching.proofs.shown.shown_of.Goals as goal

pub loop-place-preserved : goal.loop-place-preserved
loop-place-preserved c =
    passed_shown _ _ _ _ _ c.loop-place-test.true c.requires c.if-members-place.false ∙ c.loop-place.invariant
