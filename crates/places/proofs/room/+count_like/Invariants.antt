-- What is left of the list is shorter each time.
use Rattle.std.specs.Prelude.{length}
use Rattle.places.proofs.room.+count_like.Given as goal

abbrev pub decreases-count_like : goal.decreases-count_like
decreases-count_like l = length l.holders.now
