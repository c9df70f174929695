use Rattle.std.proofs.Common.{vec_len}
use Rattle.acceptance_witness.proofs.begun_jobs.spend_jobs.Given as goal

abbrev pub decreases-loop-job : goal.decreases-loop-job
decreases-loop-job l = vec_len l.jobs
