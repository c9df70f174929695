-- What the steps of reading a record do.
use Rattle.std.specs.Prelude.{◌≡◌, ◌<◌, ◌≤◌, ◌^◌, ◌⊎◌, ℕ, List, length, take, Option, Some, None}
use Rattle.std.specs.Io.KnownBytes.{Consumes, IsAtEnd}
use Rattle.rpc.specs.Records.Count.{Rises}
use Rattle.rpc.specs.Records.Record.{mark}
use Rattle.rpc.specs.Records.Reading.{TakesPart, StaysAtEnd}
use Rattle.frames.specs.declared.bound.TheConstants.{SHORT, FRONT}
use Rattle.frames.specs.declared.reader.Mark.{Mark}
use Rattle.frames.specs.declared.fault.FrameFault.{FrameFault}
use Rattle.frames.specs.declared.fault.FrameFault.TheVariants as faults

-- The first n bytes of a buffer are those that the reader gave; fewer than it holds at the end alone.
pub record Fills (n : ℕ) (buf : List ℕ) (old new : Option (List ℕ)) : Type 0 where
  pub bound : n ≤ length buf
  pub taken : Consumes old new (take n buf)
  pub «end» : n < length buf → IsAtEnd new

-- What was taken where reading came to a fault, and the reader's count, by the fault: part of what was to be
-- read, what passes a limit, or all that was left, which ends too early.
abbrev pub Stops : FrameFault → (IsPart IsCut : List ℕ → Type 0) → (Passed : Type 0)
    → (old new : Option (List ℕ)) → (old_count new_count : ℕ) → Type 0
Stops faults.NoMemory IsPart IsCut Passed old new m n = TakesPart IsPart old new × (n ≡ m)
Stops faults.TooLong IsPart IsCut Passed old new m n = Passed × (n ≡ m)
Stops faults.Device IsPart IsCut Passed old new m n = TakesPart IsPart old new × Rises m n
Stops faults.EndInRecord IsPart IsCut Passed old new m n = TakesPart IsCut old new × IsAtEnd new × (n ≡ m)

-- The same of a step that looks at no limit.
abbrev pub StepStops : FrameFault → (IsPart : List ℕ → Type 0) → (old new : Option (List ℕ))
    → (old_count new_count : ℕ) → Type 0
StepStops e IsPart old new m n = Stops e IsPart IsPart ⊥ old new m n

-- A mark was taken from the front, or nothing was left.
abbrev pub BeginsWithMark : Option Mark → Option (List ℕ) → Option (List ℕ) → Type 0
BeginsWithMark None old new = StaysAtEnd old new
BeginsWithMark (Some m) old new = Consumes old new (mark m.is_last m.len) × (m.len < 2 ^ 31)

-- A record that begins so may have so many bytes: it is short, or the bytes that tell the bound are there.
abbrev pub IsJudged : (List ℕ → ℕ) → List ℕ → ℕ → Type 0
IsJudged most bytes size = (size ≤ SHORT) ⊎ ((FRONT ≤ length bytes) × (size ≤ most (take FRONT bytes)))
