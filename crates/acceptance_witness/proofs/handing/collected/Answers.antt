use Rattle.std.proofs.Common.{ap, ◌∙◌}
use Rattle.replay_pool.specs.hand_off.Seats.{Posting}
use Rattle.acceptance_witness.proofs.OneSlot.{none_set, none_named}
use Rattle.acceptance_witness.proofs.handing.collected.Goals as goal

pub returns-in-Some-clause-none : goal.returns-in-Some-clause-none
returns-in-Some-clause-none c = λ retired.
    ap (λ (p : Posting). p.jobs) c.in-Some.ensures.empty
    ∙ none_set c.args.poster.now.jobs c.args.hand_off.now c.requires.job c.requires.slot

pub returns-in-None-clause-none : goal.returns-in-None-clause-none
returns-in-None-clause-none c = λ retired.
    ap (λ (p : Posting). p.jobs) c.in-None.ensures.same
    ∙ none_named c.args.poster.now.jobs c.args.hand_off.now c.requires.job c.requires.slot
    (c.in-None.ensures.sure retired)
