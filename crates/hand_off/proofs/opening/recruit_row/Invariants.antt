use Rattle.std.proofs.Common.{◌≡◌, ◌+◌, ◌≤◌, ◌++◌, map, take, drop, length, vec_len, vec_capacity}
use Rattle.hand_off.specs.Places.{idle_place, slot_id, vacant}
use Rattle.hand_off.proofs.opening.recruit_row.Given as goal

abbrev pub invariant-loop-slot : goal.invariant-loop-slot
invariant-loop-slot l = record {
  len : vec_len l.row ≡ l.slot;
  room : length l.slots ≤ vec_capacity l.row;
  idle : l.row.items ≡ map (λ s. idle_place (slot_id s)) (take l.slot l.slots);
  vacant : l.places.items ≡ map (λ s. vacant (slot_id s) (l.worker + 1)) (take l.slot l.slots)
      ++ map (λ s. vacant (slot_id s) l.worker) (drop l.slot l.slots);
}
