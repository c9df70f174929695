use Rattle.std.specs.Vec.Iter.{into_iter_len}
use Rattle.acceptance_witness.proofs.running.spend_all.Given as goal

abbrev pub decreases-events : goal.decreases-events
decreases-events l = into_iter_len l.rest
