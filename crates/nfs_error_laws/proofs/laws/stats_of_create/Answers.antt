use Rattle.nfs_error_laws.proofs.CreateChecks.{of_create}
use Rattle.nfs_error_laws.proofs.laws.stats_of_create.Goals as goal

-- CREATE, by its checks in turn
pub returns : goal.returns
returns c = λ w who now dir name a tree. (of_create w tree who now dir name a).says
