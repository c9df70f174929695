-- The faults of texts of evidence, and their numbers.
use Rattle.std.specs.Prelude.{ℕ, Bool, true, false, Option, Some, None}
use Rattle.challenge.specs.declared.fault.EvidenceFault.{EvidenceFault}
use Rattle.challenge.specs.declared.fault.EvidenceFault.TheVariants.{Garbage, NoMemory}

-- the number of a fault; being out of memory has none
abbrev pub fault_number : EvidenceFault → Option ℕ
fault_number Garbage = Some 1
fault_number NoMemory = None

-- whether a fault says that the bytes are no text
abbrev pub is_garbage : EvidenceFault → Bool
is_garbage Garbage = true
is_garbage NoMemory = false
