use Rattle.std.proofs.Common.{List, map, ap, ◌∙◌}
use Rattle.hand_off.specs.Places.{posting_of, slot_id, vacant}
use Rattle.hand_off.specs.declared.slot.Slot.{Slot}
use Rattle.hand_off.proofs.Rows.{opened_seat}
use Rattle.hand_off.proofs.hand_off.HandOff.open.Goals as goal

pub returns-in-Ok-clause-poster : goal.returns-in-Ok-clause-poster
returns-in-Ok-clause-poster c =
    ap posting_of
    (c.in-Ok.ensures.vacant
    ∙ ap (λ (x : List Slot). map (λ s. vacant (slot_id s) c.args.workers) x) c.deref.ensures.value)
    ∙ opened_seat c.args.workers c.in_ok-slots.slots.items
