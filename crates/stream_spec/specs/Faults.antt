-- How a stream of records ends with a fault of its reader or its writer, whatever is owed.
use Rattle.std.specs.Prelude.{◌≡◌, ◌⊎◌, ℕ, List, Option, Some, None}
use Rattle.rpc.specs.Records.Count.{Rises}
use Rattle.rpc.specs.Records.Record.{IsUnfinished, PassesLimit}
use Rattle.rpc.specs.Records.Reading.{TakesToLimit, TakesPart, IsPartOfRecord}
use Rattle.rpc.specs.declared.records.fault.RecordFault.{RecordFault}
use Rattle.rpc.specs.declared.records.fault.RecordFault.TheVariants as faults
use Rattle.stream_spec.specs.Streams.{ServesUpTo, ServesPart, StopsAfterRecords, StopsBeforeReply}
use Rattle.stream_spec.specs.Streams.{StopsInReply, TakesNothing, TakesUnfinished}

-- What the input is then, and what was written for it.
abbrev pub EndsWith : RecordFault → (owed : List (List ℕ) → List ℕ) → (input : List ℕ)
    → (before after : Option (List ℕ)) → Type 0
EndsWith faults.NoMemory owed input before after = ServesUpTo owed (λ _. Unit {0}) input before after
EndsWith faults.RecordTooLong owed input before after = ServesUpTo owed PassesLimit input before after
EndsWith faults.Device owed input before after = ServesPart owed input before after
EndsWith faults.EndInRecord owed input before after = ServesUpTo owed IsUnfinished input before after

-- What was taken and written then. Memory was refused to the reader, or to what answers. Device came from a
-- write where the reader has no fault, and else from a read: then less than a whole record was taken after
-- those that were answered.
abbrev pub LeavesOff : RecordFault → Option RecordFault → (owed : List (List ℕ) → List ℕ)
    → (Leaves : List (List ℕ) → List (List ℕ) → Type 0) → (left left' before after : Option (List ℕ)) → Type 0
LeavesOff faults.NoMemory failed owed Leaves left left' before after =
    StopsAfterRecords owed Leaves TakesNothing left left' before after
    ⊎ StopsBeforeReply owed Leaves left left' before after
LeavesOff faults.RecordTooLong failed owed Leaves left left' before after =
    StopsAfterRecords owed Leaves TakesToLimit left left' before after
LeavesOff faults.Device None owed Leaves left left' before after =
    StopsInReply owed Leaves left left' before after
LeavesOff faults.Device (Some e) owed Leaves left left' before after =
    StopsAfterRecords owed Leaves (TakesPart IsPartOfRecord) left left' before after
LeavesOff faults.EndInRecord failed owed Leaves left left' before after =
    StopsAfterRecords owed Leaves TakesUnfinished left left' before after

-- No fault stands, and nothing was counted.
abbrev pub StandsWell : Option RecordFault → (reads reads' writes writes' : ℕ) → Type 0
StandsWell failed reads reads' writes writes' =
    (failed ≡ None) × (reads' ≡ reads) × (writes' ≡ writes)

-- What stands after a fault: the fault that the reader answers from then on, and the counts of the reader
-- and of the writer, before and after.
abbrev pub StandsAfter : RecordFault → Option RecordFault → (reads reads' writes writes' : ℕ) → Type 0
StandsAfter faults.NoMemory failed reads reads' writes writes' =
    StandsWell failed reads reads' writes writes'
StandsAfter faults.RecordTooLong failed reads reads' writes writes' =
    (failed ≡ Some faults.RecordTooLong) × (reads' ≡ reads) × (writes' ≡ writes)
StandsAfter faults.Device failed reads reads' writes writes' =
    ((failed ≡ Some faults.Device) × Rises reads reads' × (writes' ≡ writes))
    ⊎ ((failed ≡ None) × (reads' ≡ reads) × Rises writes writes')
StandsAfter faults.EndInRecord failed reads reads' writes writes' =
    (failed ≡ Some faults.EndInRecord) × (reads' ≡ reads) × (writes' ≡ writes)
