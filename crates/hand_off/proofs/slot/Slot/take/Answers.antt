use Rattle.std.proofs.Common.{rules, ◌≡◌, ◌∙◌, ◌∷◌, [], Some, None, ap}
use Rattle.witness_spec.specs.Events.{JobParts}
use Rattle.replay_jobs.specs.declared.job.Back.TheVariants.{Job}
use Rattle.hand_off.specs.Slots.{holds}
use Rattle.hand_off.proofs.Keeping.{takes_keeps}
use Rattle.hand_off.proofs.Taken.{in_front, found_in, put_in}
use Rattle.hand_off.proofs.slot.Slot.take.Goals as goal

pub compare_exchange-found-requires : goal.compare_exchange-found-requires
compare_exchange-found-requires c = (c.requires.seat, search rules, takes_keeps _ _ c.args.worker _ c.requires.idle.0)

pub returns-then-found-ne-READY-clause-none : goal.returns-then-found-ne-READY-clause-none
returns-then-found-ne-READY-clause-none c =
    (c.compare_exchange-found.ensures.2 c.args.worker c.requires.idle.0).1 c.if-found-ne-READY.true

pub exchange-lay-requires : goal.exchange-lay-requires
exchange-lay-requires c =
    let took = (c.compare_exchange-found.ensures.2 c.args.worker c.requires.idle.0).0 c.if-found-ne-READY.false in
    (c.compare_exchange-found.ensures.0 ∙ c.requires.seat, (Some (Job took.0), in_front _ _ _ took.1))

pub unreachable-requires : goal.unreachable-requires
unreachable-requires c =
    let took = (c.compare_exchange-found.ensures.2 c.args.worker c.requires.idle.0).0 c.if-found-ne-READY.false in
    c.in_default.not-Some (Job took.0) (found_in _ _ _ _ took.1 c.exchange-lay.ensures.2)

pub unreachable-requires-in_default-back : goal.unreachable-requires-in_default-back
unreachable-requires-in_default-back c =
    let took = (c.compare_exchange-found.ensures.2 c.args.worker c.requires.idle.0).0 c.if-found-ne-READY.false in
    let lay : c.exchange-lay.result ≡ Some (Job took.0) = found_in _ _ _ _ took.1 c.exchange-lay.ensures.2 in
    let back : c.in-Some.back ≡ Job took.0 = cc in
    c.in_default-back.not-Job took.0 back

pub returns-clause-taken : goal.returns-clause-taken
returns-clause-taken c =
    let took = (c.compare_exchange-found.ensures.2 c.args.worker c.requires.idle.0).0 c.if-found-ne-READY.false in
    let lay : c.exchange-lay.result ≡ Some (Job took.0) = found_in _ _ _ _ took.1 c.exchange-lay.ensures.2 in
    let back : c.in-Some.back ≡ Job took.0 = cc in
    let same : took.0 ≡ c.in-Job.job = cc in
    put_in _ _ _ _ None took.1 c.exchange-lay.ensures.3
    ∙ ap (λ (t : JobParts). (holds c.args.worker t, (0, None) ∷ [])) same
