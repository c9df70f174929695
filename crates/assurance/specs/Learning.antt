-- What a witness says of an authenticator that it is shown, by the number of its answer.
use Rattle.std.specs.Prelude.{ℕ, ◌==◌, Bool, true, false, if◌then◌else◌}
use Rattle.assurance.specs.declared.learned.Learned.{Learned}
use Rattle.assurance.specs.declared.learned.Learned.TheVariants.{Taken, NoRoom, BelowBase, Refused}

-- 0: it takes it; 10: it took it before; 20: it has no room; 31: it lies below its base; else it refuses it
abbrev pub said : (answer : ℕ) → Learned
said answer =
    if answer == 0 then Taken
    else if answer == 10 then Taken
    else if answer == 20 then NoRoom
    else if answer == 31 then BelowBase
    else Refused

-- whether it has it
abbrev pub takes : Learned → Bool
takes Taken = true
takes NoRoom = false
takes BelowBase = false
takes Refused = false
