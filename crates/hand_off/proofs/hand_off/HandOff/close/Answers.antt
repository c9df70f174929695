use Rattle.std.proofs.Common.{ap, ◌∙◌}
use Rattle.hand_off.specs.Seats.{Posting}
use Rattle.hand_off.proofs.Rows.{none_named}
use Rattle.hand_off.proofs.hand_off.HandOff.close.Goals as goal

pub close_slots-requires-clause-empty : goal.close_slots-requires-clause-empty
close_slots-requires-clause-empty c =
    none_named c.poster.inside.places.items c.args.self
    (ap (λ (p : Posting). p.jobs) c.poster.view_is ∙ c.requires.empty)
