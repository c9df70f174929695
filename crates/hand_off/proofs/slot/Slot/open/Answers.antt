use Rattle.std.proofs.Common.{arith, ◌∙◌}
use Rattle.hand_off.proofs.Keeping.{takes_out_keeps, opening_keeps}
use Rattle.hand_off.proofs.slot.Slot.open.Goals as goal

pub vacant-requires : goal.vacant-requires
vacant-requires c = opening_keeps

pub load-requires : goal.load-requires
load-requires c =
    (c.in_ok-table.ensures.2, omega (arith, c.in_ok-table.ensures.0), takes_out_keeps _ _ _ _ c.in_ok-table.ensures.4)

-- the seat is the poster's of this slot, without workers and job, and has taken the empty slot out
pub returns : goal.returns
returns c = record
    { seat = c.load.ensures.0 ∙ c.in_ok-table.ensures.2; empty = c.load.ensures.2 _ c.in_ok-table.ensures.4 }
