use Rattle.nfs_error_laws.proofs.SetattrChecks.{of_set}
use Rattle.nfs_error_laws.proofs.laws.stats_of_set_attributes.Goals as goal

-- SETATTR, by its checks in turn
pub returns : goal.returns
returns c = λ w who now n a. (of_set w who now n a).says
