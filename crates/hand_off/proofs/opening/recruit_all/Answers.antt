use Rattle.std.proofs.Common.{◌≡◌, All, None, map, sym, ap, ◌∙◌, subst}
use Rattle.hand_off.specs.Places.{PostedPlace}
use Rattle.hand_off.proofs.Rows.{vacant_slots, vacant_jobs}
use Rattle.hand_off.proofs.opening.recruit_all.Goals as goal

pub returns-in_default-clause-slots : goal.returns-in_default-clause-slots
returns-in_default-clause-slots c =
    ap (map (λ (p : PostedPlace). p.slot)) c.requires.vacant ∙ vacant_slots 0 c.args.slots.now

pub returns-in_default-clause-empty : goal.returns-in_default-clause-empty
returns-in_default-clause-empty c =
    subst (All (λ (p : PostedPlace). p.job ≡ None)) (sym c.requires.vacant) (vacant_jobs 0 c.args.slots.now)

pub returns-in_default-recruit-clause-slots : goal.returns-in_default-recruit-clause-slots
returns-in_default-recruit-clause-slots c =
    ap (map (λ (p : PostedPlace). p.slot)) (c.in_default-recruit.ensures.same ∙ c.loop-worker.invariant.vacant)
    ∙ vacant_slots c.loop-worker.worker c.args.slots.now

pub returns-in_default-recruit-clause-empty : goal.returns-in_default-recruit-clause-empty
returns-in_default-recruit-clause-empty c =
    subst (All (λ (p : PostedPlace). p.job ≡ None))
    (sym (c.in_default-recruit.ensures.same ∙ c.loop-worker.invariant.vacant))
    (vacant_jobs c.loop-worker.worker c.args.slots.now)
