use Rattle.std.proofs.Common.{◌∙◌, sym}
use Rattle.merkle_keys.proofs.Paths.{path_end_more, path_end_none}
use Rattle.merkle_keys.proofs.tree.path_end.Goals as goal

pub loop-other-preserved : goal.loop-other-preserved
loop-other-preserved c =
    rw c.parent_hash-own.ensures (sym (path_end_more _ _ _ _ c.loop-other-test.true) ∙ c.loop-other.invariant)

-- at the end of the path nothing follows
pub returns : goal.returns
returns c = sym (path_end_none _ _ _ _ c.loop-other-test.false) ∙ c.loop-other.invariant
