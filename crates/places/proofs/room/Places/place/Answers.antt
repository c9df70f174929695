use Rattle.std.proofs.Common.{rules, ap, sym, subst, ◌≡◌, [], ◌∷◌, ◌++◌, ◌∙◌, ◌==◌}
use Rattle.std.specs.Prelude.{not}
use Rattle.std.proofs.lemmas.Fn.{filter_same}
use Rattle.places.specs.Holding.{KeepLimits, others, placed, with_room}
use Rattle.places.specs.declared.holder.Holder.{Holder}
use Rattle.places.proofs.Limits.{placing_keeps}
use Rattle.places.proofs.room.Places.place.Goals as goal

-- who holds a place then, by what stood there before
items : (c : goal.In_ok-push) → c.push.new.self.items ≡ placed c.args.holder c.self.inside.holders.items
items c =
    c.in_ok-push.ensures.items
    ∙ ap (λ hs. hs ++ c.args.holder ∷ []) (c.make_room.ensures.room
    ∙ ap (with_room c.args.holder.standing) (filter_same _ (λ (h : Holder). not (h.id == c.args.holder.id)) _
    (λ x b f' k. search rules) _ _ c.retain.ensures.filtered
    ∙ ap (others c.args.holder.id) c.in_ok-reserve.ensures.items))

pub returns-clause-placed : goal.returns-clause-placed
returns-clause-placed c = items c ∙ ap (placed c.args.holder) c.self.view_is

pub invariant_of-self-2 : goal.invariant_of-self-2
invariant_of-self-2 c =
    subst KeepLimits (sym (items c)) (placing_keeps c.args.holder c.self.inside.holders.items c.self.invariant)
