-- What the steps of reading a record do.
use Rattle.std.specs.Prelude.{◌≡◌, ◌<◌, ◌++◌, ◌^◌, ◌⊎◌, ℕ, List, [], length, Bool, true, false, Result, Ok}
use Rattle.std.specs.Prelude.{Err, Option, Some, None, IfSome}
use Rattle.std.specs.Io.KnownBytes.{Consumes, Keeps, IsAtEnd}
use Rattle.rpc.specs.declared.records.record.Mark.{Mark}
use Rattle.rpc.specs.declared.records.fault.RecordFault.{RecordFault}
use Rattle.rpc.specs.declared.records.fault.RecordFault.TheVariants as faults
use Rattle.rpc.specs.Records.Count.{Rises, CountedDevice}
use Rattle.rpc.specs.Records.Record.{mark, fragments, AreWithin, Passes, IsRecord, IsUnfinished}

-- a reader with its count, and the fault that it answers from now on
pub record RecordSource (R : Type 0) : Type 0 where
  pub reader : CountedDevice R
  pub fault : Option RecordFault

-- The reader was at its end, and is.
abbrev pub StaysAtEnd : Option (List ℕ) → Option (List ℕ) → Type 0
StaysAtEnd old new = IfSome old (λ bytes. bytes ≡ []) × Keeps old new × IsAtEnd new

-- Some bytes were taken, and the reader is at its end.
abbrev pub TakesAll : Option (List ℕ) → Option (List ℕ) → Type 0
TakesAll old new = (bytes : List ℕ) × Consumes old new bytes × IsAtEnd new

-- Some fragments within the limits were taken, and a mark that passes one of them; what follows the mark
-- was not.
pub record TakesToLimit (old new : Option (List ℕ)) : Type 0 where
  pub pieces : List (List ℕ)
  pub is_last : Bool
  pub len : ℕ
  pub within : AreWithin pieces
  pub len_fits : len < 2 ^ 31
  pub passes : Passes pieces len
  pub taken : Consumes old new (fragments pieces ++ mark is_last len)

-- A mark was taken from the front, or nothing was left.
abbrev pub BeginsWithMark : Option Mark → Option (List ℕ) → Option (List ℕ) → Type 0
BeginsWithMark None old new = StaysAtEnd old new
BeginsWithMark (Some m) old new = Consumes old new (mark m.is_last m.len) × (m.len < 2 ^ 31)

-- A piece of this length was taken from the front, and appended.
abbrev pub Grows : List ℕ → List ℕ → ℕ → Option (List ℕ) → Option (List ℕ) → Type 0
Grows text text' len old new =
    (piece : List ℕ) × (text' ≡ text ++ piece) × (length piece ≡ len) × Consumes old new piece

-- A record was taken from the front, or nothing was left.
abbrev pub TakesRecord : Option (List ℕ) → Option (List ℕ) → Option (List ℕ) → Type 0
TakesRecord None old new = StaysAtEnd old new
TakesRecord (Some record_bytes) old new = (text : List ℕ) × IsRecord text record_bytes × Consumes old new text

-- The same of a call that says whether there was one.
abbrev pub TakesRecordIf : Bool → List ℕ → Option (List ℕ) → Option (List ℕ) → Type 0
TakesRecordIf true bytes old new = TakesRecord (Some bytes) old new
TakesRecordIf false bytes old new = TakesRecord None old new

-- no bytes are such
abbrev pub Never : List ℕ → Type 0
Never bytes = ⊥

-- Some bytes, but fewer than a mark has.
abbrev pub IsCutMark : List ℕ → Type 0
IsCutMark bytes = (0 < length bytes) × (length bytes < 4)

-- Fewer bytes than len.
abbrev pub IsShorter : ℕ → List ℕ → Type 0
IsShorter len bytes = length bytes < len

-- Why reading came to a fault: what the bytes left are, where they are known. The device's fault is counted.
abbrev pub Fails : RecordFault → (passes ends : List ℕ → Type 0) → Option (List ℕ) → (old_count new_count : ℕ)
    → Type 0
Fails faults.NoMemory passes ends known old new = ⊥
Fails faults.RecordTooLong passes ends known old new = IfSome known passes × (new ≡ old)
Fails faults.Device passes ends known old new = Rises old new
Fails faults.EndInRecord passes ends known old new = IfSome known ends × (new ≡ old)

-- The same for a reader that may run out of memory.
abbrev pub FailsUnless : RecordFault → (passes ends : List ℕ → Type 0) → Option (List ℕ)
    → (old_count new_count : ℕ) → Type 0
FailsUnless faults.NoMemory passes ends known old new = Unit {0}
FailsUnless faults.RecordTooLong passes ends known old new = IfSome known passes × (new ≡ old)
FailsUnless faults.Device passes ends known old new = Rises old new
FailsUnless faults.EndInRecord passes ends known old new = IfSome known ends × (new ≡ old)

-- Nothing of a record, or less than a whole one.
abbrev pub IsPartOfRecord : List ℕ → Type 0
IsPartOfRecord bytes = (bytes ≡ []) ⊎ IsUnfinished bytes

-- Some bytes were taken, of which this holds.
abbrev pub TakesPart : (List ℕ → Type 0) → Option (List ℕ) → Option (List ℕ) → Type 0
TakesPart IsPart old new = (bytes : List ℕ) × Consumes old new bytes × IsPart bytes

-- What was taken of the stream where no record was read.
abbrev pub StopsAt : RecordFault → Option (List ℕ) → Option (List ℕ) → Type 0
StopsAt faults.NoMemory old new = Unit {0}
StopsAt faults.RecordTooLong old new = TakesToLimit old new
StopsAt faults.Device old new = TakesPart IsPartOfRecord old new
StopsAt faults.EndInRecord old new = TakesAll old new

-- The same of a step that looks at no limit, and takes at most so much before a device fails.
abbrev pub EndsAt : RecordFault → (IsPart : List ℕ → Type 0) → Option (List ℕ) → Option (List ℕ) → Type 0
EndsAt faults.NoMemory IsPart old new = ⊥
EndsAt faults.RecordTooLong IsPart old new = ⊥
EndsAt faults.Device IsPart old new = TakesPart IsPart old new
EndsAt faults.EndInRecord IsPart old new = TakesAll old new

-- The fault that a reader answers from then on.
abbrev pub fault_after : {A : Type 0} → Option RecordFault → Result A RecordFault → Option RecordFault
fault_after (Some before) result = Some before
fault_after None (Ok x) = None
fault_after None (Err faults.NoMemory) = None
fault_after None (Err faults.RecordTooLong) = Some faults.RecordTooLong
fault_after None (Err faults.Device) = Some faults.Device
fault_after None (Err faults.EndInRecord) = Some faults.EndInRecord
