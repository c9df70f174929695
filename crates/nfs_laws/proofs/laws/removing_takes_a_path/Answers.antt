use Rattle.std.proofs.Common.{true, false}
use Rattle.nfs_laws.proofs.OfSteps.Removing.{remove_ok, remove_dir_ok}
use Rattle.nfs_laws.proofs.Paths.{remove_takes}
use Rattle.nfs_laws.proofs.laws.removing_takes_a_path.Goals as goal

pub returns-clause-remove : goal.returns-clause-remove
returns-clause-remove c w after who now dir name tree time h =
    remove_takes now time w tree who false dir name after (remove_ok w who now dir name after h)

pub returns-clause-remove_dir : goal.returns-clause-remove_dir
returns-clause-remove_dir c w after who now dir name tree time h =
    remove_takes now time w tree who true dir name after (remove_dir_ok w who now dir name after h)
