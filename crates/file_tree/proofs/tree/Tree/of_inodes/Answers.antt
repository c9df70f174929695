use Rattle.file_tree.proofs.MissingDigests.{all_missing}
use Rattle.file_tree.proofs.tree.Tree.of_inodes.Goals as goal

pub returns-clause-missing : goal.returns-clause-missing
returns-clause-missing c = all_missing c.in_ok-of_inodes.field-0 c.new.result c.new.ensures
