use Rattle.nfs_error_laws.proofs.RenameChecks.{of_rename}
use Rattle.nfs_error_laws.proofs.laws.stats_of_rename.Goals as goal

-- RENAME, by its checks in turn
pub returns : goal.returns
returns c = λ w who now from from_name to to_name
    tree. (of_rename w tree who now from from_name to to_name).says
