use Rattle.nfs_error_laws.proofs.GivenStats.{answers}
use Rattle.nfs_error_laws.proofs.laws.some_stats_are_never_given.Goals as goal

-- by cases of the call
pub returns : goal.returns
returns c = answers
