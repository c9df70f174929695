-- What a fault of reading says of a text.
use Rattle.xdr.specs.declared.list.ReadFault.{ReadFault}
use Rattle.xdr.specs.declared.list.ReadFault.TheVariants as reading
use Rattle.challenge.specs.declared.fault.EvidenceFault.{EvidenceFault}
use Rattle.challenge.specs.declared.fault.EvidenceFault.TheVariants.{Garbage, NoMemory}

-- memory that was refused is that fault; any fault of reading is Garbage
abbrev pub fault_of : ReadFault → EvidenceFault
fault_of reading.NoMemory = NoMemory
fault_of (reading.Fault f) = Garbage
