use Rattle.std.proofs.Common.{◌≡◌, ◌≤◌, All, map, vec_len, vec_capacity}
use Rattle.hand_off.specs.Seats.{idle_at}
use Rattle.hand_off.specs.Places.{slot_id, slot_ids, vacant}
use Rattle.hand_off.proofs.opening.recruit_all.Given as goal

abbrev pub invariant-loop-worker : goal.invariant-loop-worker
invariant-loop-worker l = record {
  count : vec_len l.all ≡ l.worker;
  room : l.workers ≤ vec_capacity l.all;
  idle : All (λ w. w ≡ idle_at (slot_ids l.slots)) l.all.items;
  vacant : l.places.items ≡ map (λ s. vacant (slot_id s) l.worker) l.slots;
}
