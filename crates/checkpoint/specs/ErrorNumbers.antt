-- The numbers that programs print for the errors of `read_state`.
use Rattle.std.specs.Prelude.{ℕ, Option, Some, None}
use Rattle.checkpoint.specs.declared.read.StateFault.{StateFault}
use Rattle.checkpoint.specs.declared.read.StateFault.TheVariants.{Garbage, NotAState, NoMemory}

-- being out of memory has none
abbrev pub error_number : StateFault → Option ℕ
error_number Garbage = Some 1
error_number NotAState = Some 2
error_number NoMemory = None
