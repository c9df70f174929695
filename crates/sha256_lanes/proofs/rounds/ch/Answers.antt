use Rattle.std.proofs.Common.{arith}
use Rattle.sha256_lanes.proofs.Choice.{ch_in_three}
use Rattle.sha256_lanes.proofs.rounds.ch.Goals as goal

-- fewer operations, the same word
pub returns : goal.returns
returns c = ch_in_three c.args.x c.args.y c.args.z (omega arith) (omega arith) (omega arith)
