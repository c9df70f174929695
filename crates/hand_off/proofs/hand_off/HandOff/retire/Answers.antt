use Rattle.std.proofs.Common.{List, map, ap, sym, ◌∙◌}
use Rattle.hand_off.specs.Seats.{idle_at, retiring}
use Rattle.hand_off.specs.Places.{idle_place, posting_of, slot_id}
use Rattle.hand_off.specs.declared.slot.Slot.{Slot}
use Rattle.hand_off.proofs.Rows.{idle_places, retired_seat}
use Rattle.hand_off.proofs.hand_off.HandOff.retire.Goals as goal

pub retire_places-requires-clause-idle : goal.retire_places-requires-clause-idle
retire_places-requires-clause-idle c =
    idle_places c.worker.inside.places.items c.self.inside.slots.items
    (c.worker.view_is ∙ (c.requires.idle ∙ ap idle_at (sym c.self.view_is)))
    ∙ ap (λ (x : List Slot). map (λ s. idle_place (slot_id s)) x) (sym c.deref.ensures.value)

-- the poster's seat counts one worker more as retired at each slot, and is else as before
pub returns : goal.returns
returns c =
    ap posting_of c.retire_places.ensures
    ∙ (retired_seat c.poster.inside.places.items ∙ ap retiring c.poster.view_is)
