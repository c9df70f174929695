use Rattle.std.proofs.Common.{ap, ◌∙◌}
use Rattle.hand_off.specs.Places.{working_of}
use Rattle.hand_off.proofs.Rows.{idle_seat}
use Rattle.hand_off.proofs.opening.recruit.Goals as goal

pub returns-clause-idle : goal.returns-clause-idle
returns-clause-idle c = ap working_of c.recruit_row-places.ensures.idle ∙ idle_seat c.args.slots.now
