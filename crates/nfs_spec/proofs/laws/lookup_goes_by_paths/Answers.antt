use Rattle.nfs_spec.proofs.Lookups.{lookup_name, lookup_above}
use Rattle.nfs_spec.proofs.laws.lookup_goes_by_paths.Goals as goal

pub returns-clause-name : goal.returns-clause-name
returns-clause-name c = λ w who dir name path s is. lookup_name w who dir path s name is

pub returns-clause-above : goal.returns-clause-above
returns-clause-above c = lookup_above
