use Rattle.std.proofs.Common.{◌<◌, Some, length, sym, ap, ◌∙◌, subst}
use Rattle.std.proofs.lemmas.Option.{IfSome_then}
use Rattle.hand_off.specs.Seats.{Working, working}
use Rattle.hand_off.specs.Places.{WorkedPlace}
use Rattle.hand_off.proofs.Rows.{holds_there, idle_there, slot_there}
use Rattle.hand_off.proofs.hand_off.HandOff.take.Goals as goal

pub take-requires-clause-slot : goal.take-requires-clause-slot
take-requires-clause-slot c =
    slot_there (λ (p : WorkedPlace). p.slot) c.worker.inside.places.items c.self.inside.slots.items c.args.slot
    c.index_mut.result.now _ c.index.result.now _
    (ap (λ (w : Working). w.slots) (c.worker.view_is ∙ c.requires.idle) ∙ sym c.self.view_is)
    (subst (λ x. c.args.slot < length x) (sym c.self.view_is) c.requires.slot) c.index_mut.ensures.value c.index.ensures

pub take-requires-clause-idle : goal.take-requires-clause-idle
take-requires-clause-idle c =
    idle_there c.worker.inside.places.items c.args.self.now c.args.slot c.index_mut.result.now _
    (c.worker.view_is ∙ c.requires.idle) c.requires.slot c.index_mut.ensures.value

pub returns-clause-taken : goal.returns-clause-taken
returns-clause-taken c =
    IfSome_then c.take.result c.take.ensures.taken
    (λ job new. holds_there c.worker.inside.places.items c.args.slot c.index_mut.result.now c.take.new.self _ (Some job)
    new c.index_mut.ensures.value ∙ ap (λ (w : Working). working w c.args.slot (Some job)) c.worker.view_is)
