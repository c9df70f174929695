use Rattle.std.proofs.Common.{Bool, None, Some, sym, ◌∙◌, ap, ap₂, subst}
use Rattle.witness_spec.specs.Events.{JobParts}
use Rattle.hand_off.specs.Slots.{unnoted}
use Rattle.hand_off.specs.Seats.{count}
use Rattle.hand_off.specs.Places.{IsPosterPlace}
use Rattle.hand_off.proofs.Naming.{poster_names, poster_same, posted_is, counted_is, job_of, counted_of}
use Rattle.hand_off.proofs.places.PosterPlace.collect.Goals as goal

pub collect-requires-clause-posted : goal.collect-requires-clause-posted
collect-requires-clause-posted c =
    let own = subst (λ (b : Bool). IsPosterPlace b c.self.inside.seat.me) c.if-not-self.false c.self.invariant in
    (own.0, own.1.0, own.1.1)

pub invariant_of-self : goal.invariant_of-self
invariant_of-self c =
    let own = subst (λ (b : Bool). IsPosterPlace b c.self.inside.seat.me) c.if-not-self.false c.self.invariant in
    let new = (c.in_default.ensures.none own.0 own.1.0 own.1.1).1 in
    subst (λ (b : Bool). IsPosterPlace b c.collect.new.seat.me) (sym c.if-not-self.false)
    (own.0, (new.0, new.3))

pub returns-in_default-clause-same : goal.returns-in_default-clause-same
returns-in_default-clause-same c =
    let own = subst (λ (b : Bool). IsPosterPlace b c.self.inside.seat.me) c.if-not-self.false c.self.invariant in
    let new = (c.in_default.ensures.none own.0 own.1.0 own.1.1).1 in
    poster_same _ _ _ c.self.inside.seat.me c.collect.new.seat.me c.self.view_is c.in_default.ensures.same.0
    (job_of _ _ new.3 ∙ sym (job_of _ _ own.1.1))
    (counted_of _ _ new.3 ∙ (ap₂ count new.1 new.2 ∙ sym (counted_of _ _ own.1.1)))

pub returns-in_default-clause-sure : goal.returns-in_default-clause-sure
returns-in_default-clause-sure c = λ retired.
    let own = subst (λ (b : Bool). IsPosterPlace b c.self.inside.seat.me) c.if-not-self.false c.self.invariant in
    absurd ((c.in_default.ensures.none own.0 own.1.0 own.1.1).0
    (counted_is _ _ _ own.0 own.1.0 c.self.view_is own.1.1 retired))

pub invariant_of-self-2 : goal.invariant_of-self-2
invariant_of-self-2 c =
    let own = subst (λ (b : Bool). IsPosterPlace b c.self.inside.seat.me) c.if-not-self.false c.self.invariant in
    (unnoted own.1.0, (c.in-Some.ensures.some own.0 own.1.0 own.1.1).1)

pub returns-clause-own : goal.returns-clause-own
returns-clause-own c =
    let own = subst (λ (b : Bool). IsPosterPlace b c.self.inside.seat.me) c.if-not-self.false c.self.invariant in
    posted_is _ _ _ own.0 own.1.0 c.self.view_is own.1.1
    ∙ ap (λ (j : JobParts). Some j) (sym (c.in-Some.ensures.some own.0 own.1.0 own.1.1).0)

pub returns-clause-empty : goal.returns-clause-empty
returns-clause-empty c =
    let own = subst (λ (b : Bool). IsPosterPlace b c.self.inside.seat.me) c.if-not-self.false c.self.invariant in
    let new = (c.in-Some.ensures.some own.0 own.1.0 own.1.1).1 in
    poster_names _ _ _ c.self.inside.seat.me c.collect.new.seat.me None c.self.view_is c.in-Some.ensures.same.0
    (job_of _ _ new) (counted_of _ _ new ∙ sym (counted_of _ _ own.1.1))
