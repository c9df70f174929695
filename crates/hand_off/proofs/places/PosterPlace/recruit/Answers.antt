use Rattle.hand_off.proofs.Naming.{recruits_place}
use Rattle.hand_off.proofs.places.PosterPlace.recruit.Goals as goal

pub invariant_of-self : goal.invariant_of-self
invariant_of-self c =
    recruits_place c.self.inside.posted c.self.inside.seat.me c.recruit-seat.new.seat.me c.self.invariant
    c.recruit-seat.ensures.more c.recruit-seat.ensures.same.2
