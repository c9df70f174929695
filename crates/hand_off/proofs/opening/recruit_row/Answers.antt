use Rattle.std.proofs.Common.{◌≡◌, ◌+◌, List, get_or, ap, ◌∙◌, arith}
use Rattle.hand_off.specs.Places.{PostedPlace, slot_id, vacant, with_one_more, idle_place}
use Rattle.hand_off.proofs.Rows.{front_there, front_more, seats_more}
use Rattle.hand_off.proofs.opening.recruit_row.Goals as goal

pub loop-slot-preserved : goal.loop-slot-preserved
loop-slot-preserved c =
    let i = c.loop-slot.slot in
    let e = c.index-slots-slot.result in
    let there : c.index_mut.result.now ≡ vacant (slot_id (get_or c.args.slots.now i e)) c.args.worker =
    c.index_mut.ensures.value
    ∙ (ap (λ (x : List PostedPlace). get_or x i c.index_mut.result.now) c.loop-slot.invariant.vacant
    ∙ front_there (λ s. vacant (slot_id s) c.args.worker) (λ s. vacant (slot_id s) (c.args.worker + 1)) c.args.slots.now
    i c.index_mut.result.now e c.loop-slot-test.true) in
    record {
      len = omega (arith, c.push_reserved.ensures.len, c.loop-slot.invariant.len);
      room = omega (arith, c.push_reserved.ensures.capacity, c.loop-slot.invariant.room);
      idle = c.push_reserved.ensures.items
          ∙ seats_more c.args.slots.now i c.loop-slot.row.items c.recruit.result e c.loop-slot-test.true
          c.loop-slot.invariant.idle
          (c.recruit.ensures.worker ∙ ap (λ (p : PostedPlace). idle_place p.slot) there);
      vacant = front_more (λ s. vacant (slot_id s) c.args.worker) (λ s. vacant (slot_id s) (c.args.worker + 1))
          c.args.slots.now i c.loop-slot.places.items c.recruit.new.self e c.loop-slot-test.true
          c.loop-slot.invariant.vacant (c.recruit.ensures.more ∙ ap with_one_more there);
    }
