use Rattle.std.proofs.Common.{vec_len}
use Rattle.witness_process.proofs.filing.file_each.Given as goal

abbrev pub decreases-loop-back : goal.decreases-loop-back
decreases-loop-back g l = vec_len l.backs
