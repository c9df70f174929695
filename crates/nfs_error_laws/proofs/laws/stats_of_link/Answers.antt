use Rattle.nfs_error_laws.proofs.LinkChecks.{of_link}
use Rattle.nfs_error_laws.proofs.laws.stats_of_link.Goals as goal

-- LINK, by its checks in turn
pub returns : goal.returns
returns c = λ w who now from dir name. (of_link w who now from dir name).says
