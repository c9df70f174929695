use Rattle.nfs_laws.proofs.OfTrees.Above.{above_found, led_down}
use Rattle.nfs_spec.specs.fs_spec.Changes.Limits.{file_count}
use Rattle.nfs_laws.proofs.trees.laws.above_is_by_paths.Goals as goal

-- by the way up, and by the path down
pub returns : goal.returns
returns c = λ w upper dir tree is. (
  λ h. led_down w tree (file_count w) upper dir is h,
  λ a. above_found w tree upper 0 a.0 dir a.1 is a.2,
)
