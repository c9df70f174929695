use Rattle.std.proofs.Common.{◌<◌, Some, length, sym, ap, ◌∙◌, subst}
use Rattle.std.proofs.lemmas.Result.{on_ok_weaker}
use Rattle.hand_off.specs.Seats.{Posting, posting}
use Rattle.hand_off.specs.Places.{PostedPlace}
use Rattle.hand_off.proofs.Rows.{names_there, slot_there}
use Rattle.hand_off.proofs.hand_off.HandOff.post.Goals as goal

pub post-requires : goal.post-requires
post-requires c =
    slot_there (λ (p : PostedPlace). p.slot) c.poster.inside.places.items c.self.inside.slots.items c.args.slot
    c.index_mut.result.now _ c.index.result.now _
    (ap (λ (p : Posting). p.slots) c.poster.view_is ∙ (c.requires.slots ∙ sym c.self.view_is))
    (subst (λ x. c.args.slot < length x) (sym c.self.view_is) c.requires.slot) c.index_mut.ensures.value c.index.ensures

pub returns-clause-posted : goal.returns-clause-posted
returns-clause-posted c =
    on_ok_weaker c.post.result
    (λ new. names_there c.poster.inside.places.items c.args.slot c.index_mut.result.now c.post.new.self _
    (Some c.args.job) new c.index_mut.ensures.value
    ∙ ap (λ (p : Posting). posting p c.args.slot (Some c.args.job)) c.poster.view_is) c.post.ensures.posted
