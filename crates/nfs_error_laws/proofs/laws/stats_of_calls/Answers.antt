use Rattle.nfs_error_laws.proofs.CallChecks.{of_calls}
use Rattle.nfs_error_laws.proofs.laws.stats_of_calls.Goals as goal

-- by cases of the call
pub returns : goal.returns
returns c = λ w who now call tree. of_calls w tree who now call
