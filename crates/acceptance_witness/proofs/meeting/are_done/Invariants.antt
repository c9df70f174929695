use Rattle.std.proofs.Common.{vec_len}
use Rattle.acceptance_witness.proofs.meeting.are_done.Given as goal

abbrev pub decreases-loop-back : goal.decreases-loop-back
decreases-loop-back l = vec_len l.backs
