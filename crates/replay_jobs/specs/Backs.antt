-- What comes back of jobs.
use Rattle.witness_spec.specs.Events.{JobParts}
use Rattle.replay_jobs.specs.declared.job.Back.{Back}
use Rattle.replay_jobs.specs.declared.job.Back.TheVariants.{Done, Job}

-- the job that came back, done or not
abbrev pub job_in : Back → JobParts
job_in (Done done) = done
job_in (Job job) = job
