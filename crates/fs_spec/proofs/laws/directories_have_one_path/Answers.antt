use Rattle.fs_spec.proofs.OnePath.{one_path}
use Rattle.fs_spec.proofs.laws.directories_have_one_path.Goals as goal

-- by the one name that a directory has
pub returns : goal.returns
returns c = one_path
