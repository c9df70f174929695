-- Records that are answered together, from the k-th of a stream on, by a server in a world.
use Rattle.std.specs.Prelude.{◌≡◌, ◌≤◌, ◌+◌, ◌⊎◌, ℕ, nat_lt, true, List, [], ◌∷◌, ◌++◌, length, Option}
use Rattle.std.specs.Prelude.{if◌then◌else◌}
use Rattle.std.specs.List.{flat_map, AllByRecursion}
use Rattle.std.specs.Io.KnownBytes.{Appends, Consumes}
use Rattle.rpc.specs.Records.Record.{fragment, IsRecord}
use Rattle.rpc.specs.Records.Stream.{AreRecords}
use Rattle.rpc.specs.Records.Writing.{WritesFront}
use Rattle.rpc.specs.declared.records.fault.RecordFault.{RecordFault}
use Rattle.rpc.specs.declared.records.fault.RecordFault.TheVariants as faults
use Rattle.rpc.specs.declared.records.record.TheConstants.{MAX_RECORD}
use Rattle.server_spec.specs.World.{World}
use Rattle.server_spec.specs.Replies.{reply_owed, world_after}
use Rattle.server_spec.specs.Owed.{record_of, replies_owed, world_after_all}
use Rattle.stream_spec.specs.InTurn.{with_times}
use Rattle.rpc_streams.specs.RunRpc.{time_of}
use Rattle.rpc_streams.specs.declared.batch.End.{End}

-- the records of the replies owed to them, and the world after them
abbrev pub owed_from : World → ℕ → List (List ℕ) → List ℕ
owed_from w k records = replies_owed w (with_times time_of k records)

-- the world after these records
abbrev pub world_from : World → ℕ → List (List ℕ) → World
world_from w k records = world_after_all w (with_times time_of k records)

-- the text of records of one fragment each
abbrev pub whole_text : List (List ℕ) → List ℕ
whole_text records = flat_map (fragment true) records

-- where each of them ends, and its reply, after so many bytes of records and of replies
abbrev pub ends_from : World → ℕ → (taken owed : ℕ) → List (List ℕ) → List End
ends_from w k taken owed [] = []
ends_from w k taken owed (r ∷ rs) =
    let taken' = taken + length (fragment true r) in
    let owed' = owed + length (record_of (reply_owed w (time_of k) r)) in
    record { taken = taken'; owed = owed' } ∷ ends_from (world_after w (time_of k) r) (k + 1) taken' owed' rs

-- The bytes begin with records of one fragment each; these are their replies, after those that were held, and
-- the ends of both.
pub record IsBatch (w : World) (k : ℕ) (w' : World) (held bytes replies : List ℕ) (ends : List End)
    : Type 0 where
  pub records : List (List ℕ)
  pub more : List ℕ
  pub fit : AllByRecursion (λ r. length r ≤ MAX_RECORD) records
  pub bytes_are : bytes ≡ whole_text records ++ more
  pub world_is : w' ≡ world_from w k records
  pub replies_are : replies ≡ held ++ owed_from w k records
  pub ends_are : ends ≡ ends_from w k 0 (length held) records

-- the end of the first record whose reply isn't whole within so many bytes of replies; where each is, the end
-- of the last, and where there is none, what stands before
abbrev pub taken_by : (written before : ℕ) → List End → ℕ
taken_by written before [] = before
taken_by written before (e ∷ es) = if nat_lt written e.owed then e.taken else taken_by written e.taken es

-- Records were taken, so many, and the replies owed to them were written.
pub record AnswersRecords (w : World) (k : ℕ) (w' : World) (count : ℕ)
    (left left' before after : Option (List ℕ))
    : Type 0 where
  pub records : List (List ℕ)
  pub text : List ℕ
  pub are_records : AreRecords text records
  pub count_is : length records ≡ count
  pub taken : Consumes left left' text
  pub world_is : w' ≡ world_from w k records
  pub written : Appends before after (owed_from w k records)

-- What was taken and written after records that were answered, where no more are. Memory was refused:
-- nothing. A write failed: one record more was taken, and a beginning of its reply written, but not all.
abbrev pub StopsAfter : RecordFault → World → ℕ → (left left' before after : Option (List ℕ)) → Type 0
StopsAfter faults.NoMemory w k left left' before after = (left' ≡ left) × (after ≡ before)
StopsAfter faults.Device w k left left' before after =
    (text : List ℕ) × (last : List ℕ) × IsRecord text last × Consumes left left' text
    × WritesFront before after (record_of (reply_owed w (time_of k) last))
StopsAfter faults.RecordTooLong w k left left' before after = ⊥
StopsAfter faults.EndInRecord w k left left' before after = ⊥

-- What was held was written first, and then the rest.
abbrev pub AfterHeld : (held : List ℕ) (before : Option (List ℕ)) → (Option (List ℕ) → Type 0) → Type 0
AfterHeld held before Rest = (written : Option (List ℕ)) × (Appends before written held × Rest written)

-- Records were taken and their replies written, and then it stopped.
pub record AnswersAndStops (e : RecordFault) (w : World) (k : ℕ) (left left' before after : Option (List ℕ))
    : Type 0 where
  pub now : World
  pub count : ℕ
  pub between : Option (List ℕ)
  pub written : Option (List ℕ)
  pub answers : AnswersRecords w k now count left between before written
  pub stops : StopsAfter e now (k + count) between left' written after

-- It stopped after what was held, or a write failed within that: then no record was taken, and a beginning of
-- what was held written, but not all.
abbrev pub StopsWithHeld : RecordFault → World → ℕ → (held : List ℕ)
    → (left left' before after : Option (List ℕ)) → Type 0
StopsWithHeld e w k held left left' before after =
    ((e ≡ faults.Device) × ((left' ≡ left) × WritesFront before after held))
    ⊎ AfterHeld held before (λ written. AnswersAndStops e w k left left' written after)
