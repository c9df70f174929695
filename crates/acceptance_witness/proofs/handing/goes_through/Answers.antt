use Rattle.std.proofs.Common.{List, All, map, sym, ap, ◌∙◌, subst}
use Rattle.replay_pool.specs.hand_off.Seats.{AreRetired, Count, Posting, one_retired}
use Rattle.acceptance_witness.proofs.OneSlot.{both_retired}
use Rattle.acceptance_witness.proofs.handing.goes_through.Goals as goal

pub close-requires-clause-empty : goal.close-requires-clause-empty
close-requires-clause-empty c =
    let first =
    c.is_posted-refused.ensures.workers
    ∙ (c.is_posted-posted.ensures.workers
    ∙ (c.passes-passed.ensures.workers ∙ ap (λ (p : Posting). p.workers) c.in-Ok.ensures.poster)) in
    let last =
    ap (λ (p : Posting). p.workers) c.retire-2.ensures
    ∙ (ap (λ (p : Posting). map one_retired p.workers) c.retire.ensures
    ∙ ap (λ (x : List Count). map one_retired (map one_retired x)) first) in
    c.collected-last.ensures.none (subst (All AreRetired) (sym last) (both_retired c.in-Ok.hand_off))
