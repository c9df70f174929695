use Rattle.watching.proofs.OfEnds.{moves_ends}
use Rattle.watching.proofs.laws.steps_move_ends.Goals as goal

pub returns : goal.returns
returns c = moves_ends
