use Rattle.std.proofs.Common.{◌<◌, None, length, sym, ap, ◌∙◌, subst}
use Rattle.std.proofs.lemmas.Result.{on_ok_weaker}
use Rattle.hand_off.specs.Seats.{Working, working}
use Rattle.hand_off.specs.Places.{WorkedPlace}
use Rattle.hand_off.proofs.Rows.{holds_there, slot_there}
use Rattle.hand_off.proofs.hand_off.HandOff.done.Goals as goal

pub done-requires-clause-slot : goal.done-requires-clause-slot
done-requires-clause-slot c =
    slot_there (λ (p : WorkedPlace). p.slot) c.worker.inside.places.items c.self.inside.slots.items c.args.slot
    c.index_mut.result.now _ c.index.result.now _
    (ap (λ (w : Working). w.slots) c.worker.view_is ∙ (c.requires.slots ∙ sym c.self.view_is))
    (subst (λ x. c.args.slot < length x) (sym c.self.view_is) c.requires.slot) c.index_mut.ensures.value c.index.ensures

pub returns-clause-given : goal.returns-clause-given
returns-clause-given c =
    on_ok_weaker c.done.result
    (λ new. holds_there c.worker.inside.places.items c.args.slot c.index_mut.result.now c.done.new.self _ None new
    c.index_mut.ensures.value ∙ ap (λ (w : Working). working w c.args.slot None) c.worker.view_is) c.done.ensures.given
