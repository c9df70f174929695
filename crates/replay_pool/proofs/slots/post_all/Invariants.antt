use Rattle.std.proofs.Common.{◌≡◌, ◌≤◌, ◌++◌, take, drop, vec_len}
use Rattle.hand_off.specs.Seats.{none_at}
use Rattle.replay_pool.specs.Rounds.{some_jobs}
use Rattle.replay_pool.proofs.slots.post_all.Given as goal

abbrev pub invariant-loop-job : goal.invariant-loop-job
invariant-loop-job l = record {
  low : vec_len l.jobs ≤ vec_len l.fn.jobs;
  slots : l.poster.slots ≡ l.initial.poster.slots;
  workers : l.poster.workers ≡ l.initial.poster.workers;
  jobs : l.poster.jobs ≡ take (vec_len l.jobs) (none_at l.hand_off) ++ some_jobs (drop (vec_len l.jobs) l.fn.jobs.items);
  left : l.jobs.items ≡ take (vec_len l.jobs) l.fn.jobs.items;
}

abbrev pub decreases-loop-job : goal.decreases-loop-job
decreases-loop-job l = vec_len l.jobs
