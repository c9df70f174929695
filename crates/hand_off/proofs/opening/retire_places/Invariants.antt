use Rattle.std.proofs.Common.{◌≡◌, ◌≤◌, ◌++◌, map, take, drop, length, vec_len}
use Rattle.hand_off.specs.Places.{idle_place, slot_id, with_one_retired}
use Rattle.hand_off.proofs.opening.retire_places.Given as goal

abbrev pub invariant-loop-place : goal.invariant-loop-place
invariant-loop-place l = record {
  low : vec_len l.worker ≤ length l.slots;
  places : l.places.items ≡ take (vec_len l.worker) l.initial.places.items
      ++ map with_one_retired (drop (vec_len l.worker) l.initial.places.items);
  worker : l.worker.items ≡ map (λ s. idle_place (slot_id s)) (take (vec_len l.worker) l.slots);
}

abbrev pub decreases-loop-place : goal.decreases-loop-place
decreases-loop-place l = vec_len l.worker
