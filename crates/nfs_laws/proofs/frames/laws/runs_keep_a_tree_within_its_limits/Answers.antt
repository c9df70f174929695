use Rattle.nfs_spec.specs.Opening.{opening_files}
use Rattle.nfs_spec.proofs.OpeningFiles.{opening_room}
use Rattle.nfs_spec.proofs.OpeningTree.{opening_is_tree}
use Rattle.nfs_laws.proofs.OfFrames.Runs.{trees, rooms}
use Rattle.nfs_laws.proofs.frames.laws.runs_keep_a_tree_within_its_limits.Goals as goal

pub returns-clause-tree : goal.returns-clause-tree
returns-clause-tree c = trees

pub returns-clause-room : goal.returns-clause-room
returns-clause-room c = rooms

pub returns-clause-opening : goal.returns-clause-opening
returns-clause-opening c fsid requests bounded =
    let w = opening_files fsid in
    let tree = opening_is_tree fsid in
    (trees w requests tree bounded, rooms w requests tree bounded (opening_room fsid))
