use Rattle.nfs_error_laws.proofs.RemoveChecks.{of_remove}
use Rattle.nfs_error_laws.proofs.laws.stats_of_remove.Goals as goal

-- REMOVE, by its checks in turn
pub returns : goal.returns
returns c = λ w who now dir name tree. (of_remove w tree who now dir name).says
