use Rattle.tree_rules.specs.Listed.{files_in}
use Rattle.tree_rules.proofs.Totals.{IsUsage}
use Rattle.tree_rules.proofs.limits.total_usage.Given as goal

abbrev pub invariant-loop-inode : goal.invariant-loop-inode
invariant-loop-inode l = IsUsage l.inode-index (files_in l.inodes) l.usage.entries l.usage.blocks
