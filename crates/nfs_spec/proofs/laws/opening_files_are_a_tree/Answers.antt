use Rattle.nfs_spec.proofs.OpeningFiles.{opening_room}
use Rattle.nfs_spec.proofs.OpeningTree.{opening_is_tree}
use Rattle.nfs_spec.proofs.laws.opening_files_are_a_tree.Goals as goal

pub returns-clause-tree : goal.returns-clause-tree
returns-clause-tree c = opening_is_tree

pub returns-clause-room : goal.returns-clause-room
returns-clause-room c = opening_room
