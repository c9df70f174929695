use Rattle.std.proofs.Common.{rules, sym, ap, subst, ◌∙◌, ◌==◌}
use Rattle.std.specs.Prelude.{not}
use Rattle.std.proofs.lemmas.Fn.{filter_same}
use Rattle.places.specs.Holding.{KeepLimits, others}
use Rattle.places.specs.declared.holder.Holder.{Holder}
use Rattle.places.proofs.Limits.{leaving_keeps}
use Rattle.places.proofs.room.Places.leave.Goals as goal

-- the others hold their places
pub returns : goal.returns
returns c =
    filter_same _ (λ (h : Holder). not (h.id == c.args.id)) _ (λ x b f' k. search rules) _ _ c.retain.ensures.filtered
    ∙ ap (others c.args.id) c.self.view_is

pub invariant_of-self : goal.invariant_of-self
invariant_of-self c =
    subst KeepLimits
    (sym (filter_same _ (λ (h : Holder). not (h.id == c.args.id)) _ (λ x b f' k. search rules) _ _
    c.retain.ensures.filtered)) (leaving_keeps c.args.id c.self.inside.holders.items c.self.invariant)
