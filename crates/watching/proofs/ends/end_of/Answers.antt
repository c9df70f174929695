use Rattle.std.proofs.Common.{◌∙◌}
use Rattle.watching.proofs.OfPutting.{passed_end}
use Rattle.watching.proofs.ends.end_of.Goals as goal

pub loop-place-preserved : goal.loop-place-preserved
loop-place-preserved c =
    passed_end _ _ _ _ _ c.loop-place-test.true c.requires c.if-members-place.false ∙ c.loop-place.invariant
