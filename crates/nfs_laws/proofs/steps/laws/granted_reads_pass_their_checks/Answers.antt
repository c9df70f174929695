use Rattle.nfs_laws.proofs.OfSteps.Reading.{attributes_ok, getattr_ok, lookup_ok, read_link_ok, read_ok}
use Rattle.nfs_laws.proofs.OfSteps.Reading.{read_dir_ok}
use Rattle.nfs_laws.proofs.steps.laws.granted_reads_pass_their_checks.Goals as goal

pub returns-clause-attributes : goal.returns-clause-attributes
returns-clause-attributes c = attributes_ok

pub returns-clause-getattr : goal.returns-clause-getattr
returns-clause-getattr c = getattr_ok

pub returns-clause-lookup : goal.returns-clause-lookup
returns-clause-lookup c = lookup_ok

pub returns-clause-read_link : goal.returns-clause-read_link
returns-clause-read_link c = read_link_ok

pub returns-clause-read : goal.returns-clause-read
returns-clause-read c = read_ok

pub returns-clause-read_dir : goal.returns-clause-read_dir
returns-clause-read_dir c = read_dir_ok
