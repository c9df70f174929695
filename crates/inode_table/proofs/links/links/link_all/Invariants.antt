use Rattle.std.proofs.Common.{◌≡◌}
use Rattle.tree_rules.specs.Listed.{files_in}
use Rattle.inode_table.proofs.OfLinks.Linking.{AreLinkedTo}
use Rattle.inode_table.proofs.links.links.link_all.Given as goal

abbrev pub invariant-loop-place : goal.invariant-loop-place
invariant-loop-place l = record {
  same : files_in l.inodes ≡ files_in l.initial.inodes;
  linked : AreLinkedTo l.place (files_in l.initial.inodes) l.inodes;
}
