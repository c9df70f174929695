use Rattle.nfs_laws.proofs.EveryCall.{refusals}
use Rattle.nfs_laws.proofs.laws.refusals_leave_files.Goals as goal

-- of every call, by what it does
pub returns : goal.returns
returns c = refusals
