use Rattle.std.proofs.Common.{rules, ap, arith, sym, ◌∙◌, ◌==◌}
use Rattle.std.specs.Prelude.{not}
use Rattle.std.proofs.lemmas.Fn.{filter_same}
use Rattle.places.specs.Holding.{first_so, standing_so}
use Rattle.places.specs.declared.holder.Holder.{Holder}
use Rattle.places.proofs.Limits.{room_made}
use Rattle.places.proofs.room.make_room.Goals as goal

-- the first of too many loses its place
pub returns-in-Some-clause-room : goal.returns-in-Some-clause-room
returns-in-Some-clause-room c =
    room_made c.args.standing c.args.holders.now.items c.retain.new.self.items c.in-Some.id
    (omega (
      arith,
      c.if-most-count_like.true,
      c.most.ensures,
      c.count_like.ensures.count,
      ap (standing_so c.args.standing) c.deref.ensures.value,
    ))
    (ap (first_so c.args.standing) (sym c.deref-then-most-count_like.ensures.value) ∙ sym c.first_like.ensures
    ∙ c.in-Some.is)
    (filter_same _ (λ (h : Holder). not (h.id == c.in-Some.id)) _ (λ x b f' k. search rules) _ _
    c.retain.ensures.filtered)
