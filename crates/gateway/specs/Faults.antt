-- The faults of a gateway, by number, and where they come from.
use Rattle.std.specs.Prelude.{ℕ, ⊤, Result, Ok, Err}
use Rattle.rpc.specs.declared.records.fault.RecordFault.{RecordFault}
use Rattle.rpc.specs.declared.records.fault.RecordFault.TheVariants as records
use Rattle.gateway.specs.declared.links.fault.LinkFault.{LinkFault}
use Rattle.gateway.specs.declared.links.fault.LinkFault.TheVariants as links
use Rattle.gateway.specs.declared.fault.StreamFault.{StreamFault}
use Rattle.gateway.specs.declared.fault.StreamFault.TheVariants as faults

-- the number of a fault
abbrev pub fault_number : StreamFault → ℕ
fault_number faults.RecordTooLong = 3
fault_number faults.Device = 4
fault_number faults.EndInRecord = 5
fault_number faults.KeysUsedUp = 6
fault_number faults.NoMemory = 7
fault_number faults.Failed = 8

-- the fault of a reader or a writer, as a gateway answers it
abbrev pub of_records : RecordFault → StreamFault
of_records records.NoMemory = faults.NoMemory
of_records records.RecordTooLong = faults.RecordTooLong
of_records records.Device = faults.Device
of_records records.EndInRecord = faults.EndInRecord

-- the fault of a link, as a gateway answers it
abbrev pub of_link : LinkFault → StreamFault
of_link links.KeysUsedUp = faults.KeysUsedUp
of_link links.NoMemory = faults.NoMemory
of_link links.Failed = faults.Failed

-- a fault of the stream itself, and not of the link or of memory
abbrev pub IsOfStream : StreamFault → Type 0
IsOfStream faults.RecordTooLong = ⊤
IsOfStream faults.Device = ⊤
IsOfStream faults.EndInRecord = ⊤
IsOfStream faults.KeysUsedUp = ⊥
IsOfStream faults.NoMemory = ⊥
IsOfStream faults.Failed = ⊥

-- an answer, or a fault that is such
abbrev pub IsOkOr : {A E : Type 0} → Result A E → (E → Type 0) → Type 0
IsOkOr (Ok x) Is = ⊤
IsOkOr (Err e) Is = Is e
