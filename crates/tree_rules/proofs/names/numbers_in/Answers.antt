use Rattle.std.proofs.Common.{rules, ℕ}
use Rattle.std.proofs.lemmas.Iterator.{YieldsList-from_slice, YieldsList-from_map, items_from_collect}
use Rattle.inodes.specs.declared.inode.Inode.{Inode}
use Rattle.tree_rules.proofs.names.numbers_in.Goals as goal

-- the numbers are collected file by file
pub returns : goal.returns
returns c =
    items_from_collect _ c.collect.ensures.ran
    (YieldsList-from_map _ (λ (e : ℕ × Inode). e.0)
    (YieldsList-from_slice c.args.inodes.now cc) c.map.ensures.closure (λ x r q k. search rules))
