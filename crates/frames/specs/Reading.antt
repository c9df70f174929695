-- What a call of the reader takes of a stream.
use Rattle.std.specs.Prelude.{◌≡◌, ◌<◌, ◌^◌, ◌⊎◌, ◌++◌, ℕ, List, [], Bool, true, false, Option, Some, None}
use Rattle.std.specs.Prelude.{Result, Ok, Err}
use Rattle.std.specs.Io.KnownBytes.{Consumes}
use Rattle.rpc.specs.Records.Count.{CountedDevice}
use Rattle.rpc.specs.Records.Record.{mark, fragments}
use Rattle.rpc.specs.Records.Reading.{StaysAtEnd}
use Rattle.frames.specs.declared.fault.FrameFault.{FrameFault}
use Rattle.frames.specs.Frame.{IsRecord, AreWithin, IsUnfinished, Passes}
use Rattle.frames.specs.Steps.{Stops}

-- a reader with its count, and the fault that it answers from now on
pub record FrameSource (R : Type 0) : Type 0 where
  pub reader : CountedDevice R
  pub fault : Option FrameFault

-- A record was taken from the front, or nothing was left.
abbrev pub TakesRecord : (List ℕ → ℕ) → Option (List ℕ) → Option (List ℕ) → Option (List ℕ) → Type 0
TakesRecord most None old new = StaysAtEnd old new
TakesRecord most (Some record_bytes) old new =
    (text : List ℕ) × IsRecord most text record_bytes × Consumes old new text

-- The same of a call that says whether there was one.
abbrev pub TakesRecordIf : (List ℕ → ℕ) → Bool → List ℕ → Option (List ℕ) → Option (List ℕ) → Type 0
TakesRecordIf most true bytes old new = TakesRecord most (Some bytes) old new
TakesRecordIf most false bytes old new = TakesRecord most None old new

-- Some fragments within the limits were taken, a mark that passes one of them, and no more after it than
-- tells the bound.
pub record TakesToLimit (most : List ℕ → ℕ) (old new : Option (List ℕ)) : Type 0 where
  pub pieces : List (List ℕ)
  pub is_last : Bool
  pub len : ℕ
  pub came : List ℕ
  pub within : AreWithin most pieces
  pub len_fits : len < 2 ^ 31
  pub passes : Passes most pieces len came
  pub taken : Consumes old new (fragments pieces ++ (mark is_last len ++ came))

-- Nothing of a record, or less than a whole one.
abbrev pub IsPartOfRecord : (List ℕ → ℕ) → List ℕ → Type 0
IsPartOfRecord most bytes = (bytes ≡ []) ⊎ IsUnfinished most bytes

-- What was taken of the stream where no record was read, and the reader's count. The device's fault is
-- counted.
abbrev pub StopsAt : (List ℕ → ℕ) → FrameFault → (old new : Option (List ℕ)) → (old_count new_count : ℕ)
    → Type 0
StopsAt most e old new m n =
    Stops e (IsPartOfRecord most) (IsUnfinished most) (TakesToLimit most old new) old new m n

-- The fault that a reader answers from then on.
abbrev pub fault_after : {A : Type 0} → Option FrameFault → Result A FrameFault → Option FrameFault
fault_after (Some before) result = Some before
fault_after None (Ok x) = None
fault_after None (Err e) = Some e
