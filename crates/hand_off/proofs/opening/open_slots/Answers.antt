use Rattle.std.proofs.Common.{◌≡◌, All, None, map, sym, ap, ◌∙◌, subst}
use Rattle.hand_off.specs.Places.{PostedPlace}
use Rattle.hand_off.proofs.Rows.{vacant_slots, vacant_jobs}
use Rattle.hand_off.proofs.opening.open_slots.Goals as goal

pub close_slots-requires-clause-slots : goal.close_slots-requires-clause-slots
close_slots-requires-clause-slots c =
    ap (map (λ (p : PostedPlace). p.slot)) c.loop.invariant.vacant ∙ vacant_slots 0 c.loop.slots.items

pub close_slots-requires-clause-empty : goal.close_slots-requires-clause-empty
close_slots-requires-clause-empty c =
    subst (All (λ (p : PostedPlace). p.job ≡ None)) (sym c.loop.invariant.vacant) (vacant_jobs 0 c.loop.slots.items)
