use Rattle.std.proofs.Common.{Bool, Some, sym, ◌∙◌, subst}
use Rattle.hand_off.specs.Slots.{unnoted}
use Rattle.hand_off.specs.Places.{IsPosterPlace}
use Rattle.hand_off.proofs.Naming.{poster_names, job_of, counted_of}
use Rattle.hand_off.proofs.places.PosterPlace.post.Goals as goal

pub invariant_of-self : goal.invariant_of-self
invariant_of-self c =
    let own = subst (λ (b : Bool). IsPosterPlace b c.self.inside.seat.me) c.if-self.false c.self.invariant in
    (c.args.job, (unnoted own.0, c.post.ensures.posted own.0 own.1))

pub returns-clause-posted : goal.returns-clause-posted
returns-clause-posted c =
    let own = subst (λ (b : Bool). IsPosterPlace b c.self.inside.seat.me) c.if-self.false c.self.invariant in
    let new = c.post.ensures.posted own.0 own.1 in
    poster_names _ _ _ c.self.inside.seat.me c.post.new.seat.me (Some c.args.job) c.self.view_is
    c.post.ensures.same.0 (job_of _ _ new) (counted_of _ _ new ∙ sym (counted_of _ _ own.1))
