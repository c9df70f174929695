use Rattle.nfs_error_laws.proofs.ReaderChecks.{of_getattr, of_lookup, of_read_link, of_read, of_read_dir}
use Rattle.nfs_error_laws.proofs.ReaderChecks.{of_figures}
use Rattle.nfs_error_laws.proofs.laws.stats_are_of_the_first_failing_check.Goals as goal

pub returns-clause-getattr : goal.returns-clause-getattr
returns-clause-getattr c w n = (of_getattr w n).says

pub returns-clause-lookup : goal.returns-clause-lookup
returns-clause-lookup c w who dir name = (of_lookup w who dir name).says

pub returns-clause-read_link : goal.returns-clause-read_link
returns-clause-read_link c w n = (of_read_link w n).says

pub returns-clause-read : goal.returns-clause-read
returns-clause-read c w who n offset count = (of_read w who n offset count).says

pub returns-clause-read_dir : goal.returns-clause-read_dir
returns-clause-read_dir c w who dir cookie count = (of_read_dir w who dir cookie count).says

pub returns-clause-figures : goal.returns-clause-figures
returns-clause-figures c w n = (of_figures w n).says
