use Rattle.hand_off.proofs.Naming.{retires_place}
use Rattle.hand_off.proofs.places.PosterPlace.retire.Goals as goal

pub invariant_of-self : goal.invariant_of-self
invariant_of-self c =
    retires_place c.self.inside.posted c.self.inside.seat.me c.retire.new.seat.me c.into_seat.result.me.0
    c.self.invariant c.retire.ensures.fewer c.retire.ensures.same.2
