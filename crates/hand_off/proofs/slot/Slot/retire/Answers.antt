use Rattle.std.proofs.Common.{rules, ap}
use Rattle.hand_off.specs.Slots.{Seated}
use Rattle.hand_off.proofs.Counting.{retires_keeps}
use Rattle.hand_off.proofs.slot.Slot.retire.Goals as goal

pub join_seat-requires : goal.join_seat-requires
join_seat-requires c =
    let p = c.requires.poster in
    let i = c.requires.idle in (
      c.requires.seats.0,
      c.requires.seats.1,
      ap (λ (m : Seated). m.1) i.1,
      search rules,
      rw (p.3, i.1) (retires_keeps c.args.seat.now.id p.0 p.1 p.2 c.args.worker.id i.0),
    )
