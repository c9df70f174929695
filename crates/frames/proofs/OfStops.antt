-- A step that comes to a fault, after what was taken before it.
-- Serves: read_piece, read_bytes, judge, read_fragment, read_record.
use Rattle.std.proofs.Common.{ℕ, ◌-◌, ◌<◌, ◌≤◌, List, [], ◌++◌, arith, refl, length-append}
use Rattle.std.specs.Prelude.{Option}
use Rattle.std.specs.Io.KnownBytes.{Consumes}
use Rattle.std.proofs.KnownBytes.{Consumes-trans, Consumes-nil}
use Rattle.rpc.specs.Records.Reading.{Grows, IsShorter}
use Rattle.frames.specs.declared.fault.FrameFault.{FrameFault}
use Rattle.frames.specs.declared.fault.FrameFault.TheVariants as faults
use Rattle.frames.specs.Steps.{Stops, StepStops}

-- what it had taken stands after what was taken before it
pub stops_after : (e : FrameFault) (a b c : Option (List ℕ)) (bytes : List ℕ) (m n : ℕ)
    (IsPart IsCut IsPart' IsCut' : List ℕ → Type 0) (Passed Passed' : Type 0) → Consumes a b bytes
    → ((more : List ℕ) → IsPart more → IsPart' (bytes ++ more))
    → ((more : List ℕ) → IsCut more → IsCut' (bytes ++ more)) → (Passed → Passed')
    → Stops e IsPart IsCut Passed b c m n → Stops e IsPart' IsCut' Passed' a c m n
stops_after faults.NoMemory a b c bytes m n P C P' C' L L' taken part cut passed ((more, after, is), same) =
    ((bytes ++ more, Consumes-trans _ _ _ _ _ taken after, part more is), same)
stops_after faults.TooLong a b c bytes m n P C P' C' L L' taken part cut passed (is, same) = (passed is, same)
stops_after faults.Device a b c bytes m n P C P' C' L L' taken part cut passed ((more, after, is), rises) =
    ((bytes ++ more, Consumes-trans _ _ _ _ _ taken after, part more is), rises)
stops_after faults.EndInRecord a b c bytes m n P C P' C' L L' taken part cut passed
    ((more, after, is), ends, same) =
    ((bytes ++ more, Consumes-trans _ _ _ _ _ taken after, cut more is), ends, same)

-- there was no memory, and nothing was read
pub stops_unread : (a : Option (List ℕ)) (m len : ℕ) → 0 < len
    → StepStops faults.NoMemory (IsShorter len) a a m m
stops_unread a m len some = (([], Consumes-nil a, omega arith), refl)

-- a piece, after others
pub stops_in_bytes : (e : FrameFault) (a b c : Option (List ℕ)) (text text' : List ℕ) (m n left more len : ℕ)
    → Grows text text' (len - left) a b → left ≤ len → more ≤ left → StepStops e (IsShorter more) b c m n
    → StepStops e (IsShorter len) a c m n
stops_in_bytes e a b c text text' m n left more len (bytes, grown, size, taken) fits few stops =
    let short : (xs : List ℕ) → IsShorter more xs → IsShorter len (bytes ++ xs) =
    λ xs lt. omega (arith, length-append bytes xs) in
    stops_after e a b c bytes m n _ _ _ _ ⊥ ⊥ taken short short (λ never. never) stops
