use Rattle.std.proofs.Common.{◌≡◌, ◌≤◌, map, vec_len, vec_capacity}
use Rattle.hand_off.specs.Places.{slot_id, vacant}
use Rattle.hand_off.proofs.opening.open_slots.Given as goal

abbrev pub invariant-loop : goal.invariant-loop
invariant-loop l = record {
  count : vec_len l.slots ≡ l.counter;
  room : l.count ≤ vec_capacity l.slots;
  places_room : l.count ≤ vec_capacity l.places;
  places : vec_len l.places ≡ l.counter;
  vacant : l.places.items ≡ map (λ s. vacant (slot_id s) 0) l.slots.items;
}
