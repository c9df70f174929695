use Rattle.std.proofs.Common.{◌≡◌, ◌<◌, Some, length, ap, sym, ◌∙◌, arith}
use Rattle.hand_off.specs.replay_jobs.witness_spec.Events.{JobParts}
use Rattle.hand_off.specs.Seats.{Posting}
use Rattle.replay_pool.proofs.Posted.{backs_more, collected_more, next_named}
use Rattle.replay_pool.proofs.slots.collect_all.Goals as goal

pub loop-slot-preserved : goal.loop-slot-preserved
loop-slot-preserved c =
    let i = c.loop-slot.slot in
    let new = c.in-Some.ensures.empty in
    let first = c.args.poster.now.jobs in
    let lt : i < length c.args.hand_off.now = omega (arith, c.loop-slot-test.true, c.slots-slot-end.ensures) in
    let long : length first ≡ length c.args.hand_off.now = c.requires.each in
    record {
      slots = ap (λ (p : Posting). p.slots) new ∙ c.loop-slot.invariant.slots;
      workers = ap (λ (p : Posting). p.workers) new ∙ c.loop-slot.invariant.workers;
      jobs = ap (λ (p : Posting). p.jobs) new
          ∙ collected_more c.args.hand_off.now first c.loop-slot.poster.jobs i long lt c.loop-slot.invariant.jobs;
      backs = backs_more first i c.loop-slot.backs.items c.push_reserved.new.self.items c.run_left.result
          (omega (arith, lt, long))
          (sym (next_named c.args.hand_off.now first c.loop-slot.poster.jobs i long lt c.loop-slot.invariant.jobs)
          ∙ (c.in-Some.ensures.own ∙ ap (λ (j : JobParts). Some j) (sym c.run_left.ensures)))
          c.push_reserved.ensures.items c.loop-slot.invariant.backs;
      len = omega (arith, c.push_reserved.ensures.len, c.loop-slot.invariant.len);
      room = omega (arith, c.push_reserved.ensures.capacity, c.loop-slot.invariant.room);
    }
