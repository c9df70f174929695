-- The number in what `nfsacc check` is asked.
use Rattle.std.specs.Prelude.{◌≡◌, ℕ, Option, Some, None}
use Rattle.clap.specs.Walk.{Text}
use Rattle.command_line.specs.ServeOrders.{Writes}

-- the option's word is this number, from 1 to 4,259,841; without the option there is none
abbrev pub AsksState : Option Text → Option ℕ → Type 0
AsksState None number = number ≡ None
AsksState (Some text) None = ⊥
AsksState (Some text) (Some number) = Writes 1 4259841 text number
