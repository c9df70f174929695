use Rattle.fs_spec.specs.Files.{directory_entries}
use Rattle.fs_spec.proofs.Walks.{last_step}
use Rattle.fs_spec.proofs.laws.parents_are_directories.Goals as goal

-- by the last step of the walk
pub returns : goal.returns
returns c = λ w tree path name number cookie h. let s =
    last_step (directory_entries w) (1, 0) path name number cookie h in
    (s.0, s.1, s.2, tree.tree.lists s.0 name number cookie s.3, s.3)
