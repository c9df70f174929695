use Rattle.nfs_error_laws.proofs.WriteChecks.{of_write}
use Rattle.nfs_error_laws.proofs.MakeChecks.{of_make}
use Rattle.nfs_error_laws.proofs.laws.stats_of_changes_are_of_the_first_failing_check.Goals as goal

pub returns-clause-write : goal.returns-clause-write
returns-clause-write c w who now n offset new = (of_write w who now n offset new).says

pub returns-clause-make_dir : goal.returns-clause-make_dir
returns-clause-make_dir c w who now dir name a = (of_make w who now dir name _).says

pub returns-clause-symlink : goal.returns-clause-symlink
returns-clause-symlink c w who now dir name target = (of_make w who now dir name _).says
