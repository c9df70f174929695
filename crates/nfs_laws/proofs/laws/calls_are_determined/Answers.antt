use Rattle.nfs_laws.proofs.Determined.{determined}
use Rattle.nfs_laws.proofs.laws.calls_are_determined.Goals as goal

-- the name of the machine says nothing
pub returns : goal.returns
returns c = determined
