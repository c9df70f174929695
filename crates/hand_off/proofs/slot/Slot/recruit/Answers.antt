use Rattle.std.proofs.Common.{rules}
use Rattle.hand_off.proofs.Counting.{recruits_keeps}
use Rattle.hand_off.proofs.slot.Slot.recruit.Goals as goal

pub split_seat-requires : goal.split_seat-requires
split_seat-requires c = let p = c.requires.poster in
    (c.requires.seat, search rules, rw p.3 (recruits_keeps c.args.seat.now.id p.0 p.1 p.2))
