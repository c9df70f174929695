use Rattle.tree_rules.proofs.OfFileRules.Decided.{tree_files}
use Rattle.tree_rules.proofs.file_rules.laws.trees_are_of_files.Goals as goal

-- the law
pub returns : goal.returns
returns c = tree_files
