-- What is left of the list is shorter each time.
use Rattle.std.specs.Prelude.{length}
use Rattle.places.proofs.room.+hold.Given as goal

abbrev pub decreases-hold : goal.decreases-hold
decreases-hold l = length l.holders.now
