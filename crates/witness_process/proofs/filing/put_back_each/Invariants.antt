use Rattle.std.proofs.Common.{vec_len}
use Rattle.witness_process.proofs.filing.put_back_each.Given as goal

abbrev pub decreases-loop-job : goal.decreases-loop-job
decreases-loop-job g l = vec_len l.jobs
