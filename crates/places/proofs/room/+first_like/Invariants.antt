-- What is left of the list is shorter each time.
use Rattle.std.specs.Prelude.{length}
use Rattle.places.proofs.room.+first_like.Given as goal

abbrev pub decreases-first_like : goal.decreases-first_like
decreases-first_like l = length l.holders.now
