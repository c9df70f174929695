use Rattle.std.proofs.Common.{◌∙◌}
use Rattle.merkle_keys.proofs.StoredTrees.{root_at}
use Rattle.merkle_keys.proofs.signer.Signer.root.Goals as goal

-- the root is the last hash of a whole tree
pub returns : goal.returns
returns c = rw (← c.self.view_is)
    (c.last_hash.ensures ∙ rw c.deref.ensures.value (root_at _ _ _ c.self.invariant.tree))
