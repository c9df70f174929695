use Rattle.std.specs.Vec.Iter.{into_iter_len}
use Rattle.acceptance_witness.proofs.running.told.Given as goal

abbrev pub decreases-replies : goal.decreases-replies
decreases-replies l = into_iter_len l.rest
