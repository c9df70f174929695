-- The faults of a stream of records, by number.
use Rattle.std.specs.Prelude.{ℕ, Option, Some, None}
use Rattle.rpc.specs.declared.records.fault.RecordFault.{RecordFault}
use Rattle.rpc.specs.declared.records.fault.RecordFault.TheVariants.{NoMemory, RecordTooLong, Device}
use Rattle.rpc.specs.declared.records.fault.RecordFault.TheVariants.{EndInRecord}

-- the number of a fault of the stream; being out of memory has none
abbrev pub fault_number : RecordFault → Option ℕ
fault_number NoMemory = None
fault_number RecordTooLong = Some 3
fault_number Device = Some 4
fault_number EndInRecord = Some 5
