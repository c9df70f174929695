use Rattle.tree_rules.specs.Listed.{files_in}
use Rattle.tree_rules.proofs.Counted.{AreCountedTo, AreKnownTo}
use Rattle.tree_rules.proofs.names.add_inodes.Given as goal

abbrev pub invariant-loop-place : goal.invariant-loop-place
invariant-loop-place l = record {
  counted : AreCountedTo l.place (files_in l.inodes) l.numbers l.names l.above;
  known : AreKnownTo l.place (files_in l.inodes) l.numbers;
}
