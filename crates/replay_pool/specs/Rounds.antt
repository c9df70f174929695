-- What a round of jobs gives back.
use Rattle.std.specs.Prelude.{◌≡◌, List, map, Option, Some}
use Rattle.hand_off.specs.replay_jobs.witness_spec.Events.{JobParts}
use Rattle.hand_off.specs.replay_jobs.Backs.{job_in}
use Rattle.hand_off.specs.replay_jobs.declared.job.Back.{Back}

-- It came back of this job: the job done, whose type says that the verdict is the replay of its own state and
-- segment, or the job itself.
abbrev pub IsBackOf : JobParts → Back → Type 0
IsBackOf j b = job_in b ≡ j

-- it came back of the job that was posted
abbrev pub IsBackAt : Option JobParts → Back → Type 0
IsBackAt posted b = posted ≡ Some (job_in b)

abbrev pub some_job : JobParts → Option JobParts
some_job j = Some j

-- jobs, each of which was posted
abbrev pub some_jobs : List JobParts → List (Option JobParts)
some_jobs jobs = map some_job jobs
