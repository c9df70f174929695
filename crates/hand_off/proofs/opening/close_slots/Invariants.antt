use Rattle.std.proofs.Common.{◌≡◌, All, None, map, vec_len}
use Rattle.hand_off.specs.Places.{slot_ids}
use Rattle.hand_off.proofs.opening.close_slots.Given as goal

abbrev pub invariant-loop-slot : goal.invariant-loop-slot
invariant-loop-slot l = record {
  slots : map (λ p. p.slot) l.places.items ≡ slot_ids l.slots.items;
  empty : All (λ p. p.job ≡ None) l.places.items;
}

abbrev pub decreases-loop-slot : goal.decreases-loop-slot
decreases-loop-slot l = vec_len l.slots
