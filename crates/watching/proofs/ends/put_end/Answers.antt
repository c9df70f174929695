use Rattle.std.proofs.Common.{arith, ◌∙◌}
use Rattle.watching.proofs.OfPutting.{put_one, kept_one}
use Rattle.watching.proofs.ends.put_end.Goals as goal
use Rattle.watching.proofs.ends.put_end.Goals.{then-node-members, else-node-members}

pub loop-place-preserved : goal.loop-place-preserved
loop-place-preserved c =
    let is = c.loop-place.invariant in
    elim c.if-node-members.branch [
      | then-node-members w ↦ rw w.ends-is (put_one _ _ _ _ _ _ c.loop-place-test.true (omega arith)
          w.if-node-members.true ∙ is)
      | else-node-members w ↦ rw w.ends-is (kept_one _ _ _ _ _ _ c.loop-place-test.true (omega arith)
          w.if-node-members.false ∙ is)
    ]
