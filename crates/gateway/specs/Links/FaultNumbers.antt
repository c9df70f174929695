-- The faults of a link, by number.
use Rattle.std.specs.Prelude.{ℕ}
use Rattle.gateway.specs.declared.links.fault.LinkFault.{LinkFault}
use Rattle.gateway.specs.declared.links.fault.LinkFault.TheVariants.{KeysUsedUp, NoMemory, Failed}

-- the number of a fault
abbrev pub fault_number : LinkFault → ℕ
fault_number KeysUsedUp = 6
fault_number NoMemory = 7
fault_number Failed = 8
