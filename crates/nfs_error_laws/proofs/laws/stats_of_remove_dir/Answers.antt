use Rattle.nfs_error_laws.proofs.RemoveChecks.{of_remove_dir}
use Rattle.nfs_error_laws.proofs.laws.stats_of_remove_dir.Goals as goal

-- RMDIR, by its checks in turn
pub returns : goal.returns
returns c = λ w who now dir name tree. (of_remove_dir w tree who now dir name).says
