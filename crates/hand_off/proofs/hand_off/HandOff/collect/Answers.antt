use Rattle.std.proofs.Common.{◌<◌, All, None, length, sym, ap, ◌∙◌, subst}
use Rattle.std.proofs.lemmas.Option.{IfSome_then}
use Rattle.hand_off.specs.Seats.{AreRetired, Posting, job_at, posting}
use Rattle.hand_off.specs.Places.{PostedPlace}
use Rattle.hand_off.proofs.Rows.{names_there, slot_there, retired_there, job_there, none_then, places_long}
use Rattle.hand_off.proofs.hand_off.HandOff.collect.Goals as goal

pub collect-requires : goal.collect-requires
collect-requires c =
    slot_there (λ (p : PostedPlace). p.slot) c.poster.inside.places.items c.self.inside.slots.items c.args.slot
    c.index_mut.result.now _ c.index.result.now _
    (ap (λ (p : Posting). p.slots) c.poster.view_is ∙ (c.requires.slots ∙ sym c.self.view_is))
    (subst (λ x. c.args.slot < length x) (sym c.self.view_is) c.requires.slot) c.index_mut.ensures.value c.index.ensures

pub returns-clause-empty : goal.returns-clause-empty
returns-clause-empty c =
    IfSome_then c.collect.result c.collect.ensures.empty
    (λ back new.
    names_there c.poster.inside.places.items c.args.slot c.index_mut.result.now c.collect.new.self _ None new
    c.index_mut.ensures.value ∙ ap (λ (p : Posting). posting p c.args.slot None) c.poster.view_is)

pub returns-clause-sure : goal.returns-clause-sure
returns-clause-sure c =
    let slots = ap (λ (p : Posting). p.slots) c.poster.view_is ∙ c.requires.slots in
    none_then c.collect.result c.collect.ensures.sure
    (λ sure retired. sym (ap (λ (p : Posting). job_at p.jobs c.args.slot) c.poster.view_is)
    ∙ (job_there (λ (p : PostedPlace). p.job) c.poster.inside.places.items c.args.slot c.index_mut.result.now _
    (places_long (λ (p : PostedPlace). p.slot) c.poster.inside.places.items c.args.self.now c.args.slot slots
    c.requires.slot) c.index_mut.ensures.value
    ∙ sure (retired_there c.poster.inside.places.items c.args.self.now c.args.slot c.index_mut.result.now _ slots
    c.requires.slot c.index_mut.ensures.value
    (subst (λ (p : Posting). All AreRetired p.workers) (sym c.poster.view_is) retired))))
