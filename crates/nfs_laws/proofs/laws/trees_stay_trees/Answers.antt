use Rattle.nfs_laws.proofs.EveryCall.{stays}
use Rattle.nfs_laws.proofs.laws.trees_stay_trees.Goals as goal

-- the files after a call follow those before it
pub returns : goal.returns
returns c = λ w who now call tree time bound. (stays now time w tree who call bound).tree
