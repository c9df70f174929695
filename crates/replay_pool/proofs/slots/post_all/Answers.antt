use Rattle.std.proofs.Common.{◌≡◌, ◌+◌, ◌<◌, length, vec_len, ap, ◌∙◌, arith}
use Rattle.hand_off.specs.Seats.{Posting}
use Rattle.replay_pool.proofs.Posted.{last_job, not_posted, not_some, posted_more}
use Rattle.replay_pool.proofs.slots.post_all.Goals as goal

pub unreachable-requires : goal.unreachable-requires
unreachable-requires c =
    let i = c.len.result in
    let next : vec_len c.loop-job.jobs ≡ i + 1 = omega (arith, c.len.ensures, c.in-Some.ensures.len) in
    let lt : i < length c.args.hand_off.now = omega (arith, next, c.loop-job.invariant.low, c.requires.each) in
    not_some _ (not_posted c.args.hand_off.now c.args.jobs.items (vec_len c.loop-job.jobs) i c.loop-job.poster.jobs next lt
    c.loop-job.invariant.jobs) c.in_default-posted.ensures.full.1

pub loop-job-preserved : goal.loop-job-preserved
loop-job-preserved c =
    let i = c.len.result in
    let next : vec_len c.loop-job.jobs ≡ i + 1 = omega (arith, c.len.ensures, c.in-Some.ensures.len) in
    let low : i < length c.args.hand_off.now = omega (arith, next, c.loop-job.invariant.low, c.requires.each) in
    let lt : i < length c.args.jobs.items = omega (arith, next, c.loop-job.invariant.low, c.args.jobs.ok) in
    let last = last_job c.args.jobs.items c.loop-job.jobs.items c.pop.new.self.items c.in-Some.job (vec_len c.loop-job.jobs)
    i next lt c.loop-job.invariant.left c.in-Some.ensures.items in
    record {
      low = omega (arith, c.in-Some.ensures.len, c.loop-job.invariant.low);
      slots = ap (λ (p : Posting). p.slots) c.in-Ok.ensures.posted ∙ c.loop-job.invariant.slots;
      workers = ap (λ (p : Posting). p.workers) c.in-Ok.ensures.posted ∙ c.loop-job.invariant.workers;
      jobs = rw (← c.len.ensures)
          (ap (λ (p : Posting). p.jobs) c.in-Ok.ensures.posted
          ∙ posted_more c.args.hand_off.now c.args.jobs.items c.in-Some.job (vec_len c.loop-job.jobs) i
          c.loop-job.poster.jobs next low lt last.1 c.loop-job.invariant.jobs);
      left = rw (← c.len.ensures) last.0;
    }
