use Rattle.std.proofs.Common.{◌≡◌, ◌+◌, ◌<◌, length, vec_len, ap, sym, ◌∙◌, arith}
use Rattle.hand_off.specs.Places.{PostedPlace, idle_place, slot_id, slot_ids, with_one_retired}
use Rattle.hand_off.proofs.Rows.{last_seat, last_there, last_more, places_long, slot_there, slots_long}
use Rattle.hand_off.proofs.opening.retire_places.Goals as goal

pub retire-requires-clause-slot : goal.retire-requires-clause-slot
retire-requires-clause-slot c =
    let i = c.len-slot.result in
    let next : vec_len c.loop-place.worker ≡ i + 1 = omega (arith, c.len-slot.ensures, c.in-Some.ensures.len) in
    let low : i < length (slot_ids c.args.slots.now) =
    omega (arith, c.loop-place.invariant.low, next, slots_long c.args.slots.now) in
    let lt : i < length c.args.places.now.items =
    places_long (λ (p : PostedPlace). p.slot) c.args.places.now.items (slot_ids c.args.slots.now) i c.requires.slots
    low in
    slot_there (λ (p : PostedPlace). p.slot) c.args.places.now.items c.args.slots.now i c.index_mut.result.now
    c.index_mut.result.now c.index-slots-slot.result c.index-slots-slot.result c.requires.slots low
    (c.index_mut.ensures.value
    ∙ last_there with_one_retired c.loop-place.places.items c.args.places.now.items (vec_len c.loop-place.worker) i
    c.index_mut.result.now lt next c.loop-place.invariant.places) c.index-slots-slot.is

pub retire-requires-clause-worker : goal.retire-requires-clause-worker
retire-requires-clause-worker c =
    let i = c.len-slot.result in
    let e = c.index-slots-slot.result in
    let next : vec_len c.loop-place.worker ≡ i + 1 = omega (arith, c.len-slot.ensures, c.in-Some.ensures.len) in
    let lt : i < length c.args.slots.now = omega (arith, c.loop-place.invariant.low, next) in
    (last_seat c.args.slots.now (vec_len c.loop-place.worker) i e c.loop-place.worker.items c.pop.new.self.items
    c.in-Some.place lt next c.in-Some.ensures.items c.loop-place.invariant.worker).1
    ∙ ap (λ s. idle_place (slot_id s)) (sym c.index-slots-slot.is)

pub loop-place-preserved : goal.loop-place-preserved
loop-place-preserved c =
    let i = c.len-slot.result in
    let e = c.index-slots-slot.result in
    let next : vec_len c.loop-place.worker ≡ i + 1 = omega (arith, c.len-slot.ensures, c.in-Some.ensures.len) in
    let low : i < length c.args.slots.now = omega (arith, c.loop-place.invariant.low, next) in
    let lt : i < length c.args.places.now.items =
    places_long (λ (p : PostedPlace). p.slot) c.args.places.now.items (slot_ids c.args.slots.now) i c.requires.slots
    (omega (arith, low, slots_long c.args.slots.now)) in
    record {
      low = omega (arith, c.in-Some.ensures.len, c.loop-place.invariant.low);
      places = rw (← c.len-slot.ensures)
          (last_more with_one_retired c.loop-place.places.items c.args.places.now.items (vec_len c.loop-place.worker) i
          c.index_mut.result.now c.index_mut.result.now c.retire.new.self lt next c.loop-place.invariant.places
          c.index_mut.ensures.value c.retire.ensures);
      worker = rw (← c.len-slot.ensures)
          (last_seat c.args.slots.now (vec_len c.loop-place.worker) i e c.loop-place.worker.items c.pop.new.self.items
          c.in-Some.place low next c.in-Some.ensures.items c.loop-place.invariant.worker).0;
    }
