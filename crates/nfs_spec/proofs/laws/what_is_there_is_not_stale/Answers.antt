use Rattle.nfs_spec.proofs.Present.{getattr_there, lookup_there}
use Rattle.nfs_spec.proofs.laws.what_is_there_is_not_stale.Goals as goal

pub returns-clause-getattr : goal.returns-clause-getattr
returns-clause-getattr c = getattr_there

pub returns-clause-lookup : goal.returns-clause-lookup
returns-clause-lookup c = lookup_there
