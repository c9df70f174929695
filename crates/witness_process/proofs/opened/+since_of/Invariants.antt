-- What is left of the list is shorter each time.
use Rattle.std.specs.Prelude.{length}
use Rattle.witness_process.proofs.opened.+since_of.Given as goal

abbrev pub decreases-since_of : goal.decreases-since_of
decreases-since_of l = length l.before.now
