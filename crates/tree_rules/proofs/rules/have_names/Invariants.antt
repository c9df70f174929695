use Rattle.tree_rules.proofs.Seen.{HaveNamesTo}
use Rattle.tree_rules.proofs.rules.have_names.Given as goal

abbrev pub invariant-loop-place : goal.invariant-loop-place
invariant-loop-place l = HaveNamesTo l.place l.inodes l.names
