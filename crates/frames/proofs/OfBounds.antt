-- The bound of a record, by its first bytes.
-- Serves: judge, read_fragment, read_record by way of OfFragments.
use Rattle.std.proofs.Common.{◌≡◌, ℕ, ◌+◌, ◌-◌, ◌<◌, ◌≤◌, List, [], ◌++◌, arith, length, take, ap, ◌∙◌}
use Rattle.std.proofs.Common.{length-append, append_assoc, inl, inr}
use Rattle.std.specs.Prelude.{Option, Result, Ok, Err, OnOk}
use Rattle.std.proofs.KnownBytes.{Consumes-nil}
use lib.Seq.{take-append-le}
use Rattle.rpc.specs.Records.Reading.{Grows, IsShorter, TakesPart}
use Rattle.frames.specs.declared.fault.FrameFault.{FrameFault}
use Rattle.frames.specs.Frame.{most_bytes, IsPartOfPiece, PassesBound}
use Rattle.frames.specs.Steps.{Stops, StepStops, IsJudged}
use Rattle.frames.proofs.OfStops.{stops_after}

-- what was judged stays within the bound, whatever follows
pub judged_fits : (most : List ℕ → ℕ) (bytes more : List ℕ) (size : ℕ) → IsJudged most bytes size
    → size ≤ most_bytes most (bytes ++ more)
judged_fits most bytes more size (inl short) = omega arith
judged_fits most bytes more size (inr (enough, fits)) =
    let same : most (take 48 (bytes ++ more)) ≡ most (take 48 bytes) =
    ap most (take-append-le 48 bytes more enough) in
    omega (arith, same, fits)

-- what was missing to tell the bound came in part
pub part_before_judged : (most : List ℕ → ℕ) (text : List ℕ) (len size missing : ℕ) (more : List ℕ)
    → size ≡ length text + len → 29288 < size → missing ≡ 48 - length text → IsShorter missing more
    → IsPartOfPiece most text len more
part_before_judged most text len size missing more sum long few short = record {
  is_short = omega arith;
  fits = λ enough. absurd (omega (arith, length-append text more));
}

-- the rest of a judged fragment came in part
pub part_after_judged : (most : List ℕ → ℕ) (text text' front : List ℕ) (len n : ℕ) (more : List ℕ)
    → text' ≡ text ++ front → length front ≡ n → n ≤ len → IsJudged most text' (length text + len)
    → IsShorter (len - n) more → IsPartOfPiece most text len (front ++ more)
part_after_judged most text text' front len n more grown size fits judged short = record {
  is_short = omega (arith, length-append front more);
  fits = λ enough. rw (← append_assoc text front more, ← grown) (judged_fits most text' more _ judged);
}

-- a fault among the bytes that tell the bound
pub stops_before_judged : (most : List ℕ → ℕ) (e : FrameFault) (a b : Option (List ℕ)) (text : List ℕ)
    (m n len size missing : ℕ) (Passed : Type 0) → size ≡ length text + len → 29288 < size
    → missing ≡ 48 - length text → StepStops e (IsShorter missing) a b m n
    → Stops e (IsPartOfPiece most text len) (IsPartOfPiece most text len) Passed a b m n
stops_before_judged most e a b text m n len size missing Passed sum long few stops =
    let part : (more : List ℕ) → IsShorter missing more → IsPartOfPiece most text len more =
    λ more short. part_before_judged most text len size missing more sum long few short in
    stops_after e a a b [] m n _ _ _ _ ⊥ Passed (Consumes-nil a) part part (λ never. absurd never) stops

-- a fault after them
pub stops_after_judged : (most : List ℕ → ℕ) (e : FrameFault) (a b c : Option (List ℕ)) (text text' : List ℕ)
    (m n len read : ℕ) (Passed : Type 0) → Grows text text' read a b → read ≤ len
    → IsJudged most text' (length text + len) → StepStops e (IsShorter (len - read)) b c m n
    → Stops e (IsPartOfPiece most text len) (IsPartOfPiece most text len) Passed a c m n
stops_after_judged most e a b c text text' m n len read Passed (front, grown, size, taken) fits judged stops =
    let part : (more : List ℕ) → IsShorter (len - read) more → IsPartOfPiece most text len (front ++ more) =
    λ more short. part_after_judged most text text' front len read more grown size fits judged short in
    stops_after e a b c front m n _ _ _ _ ⊥ Passed taken part part (λ never. absurd never) stops

-- the bound is passed
pub passes_bound : (most : List ℕ → ℕ) (a b : Option (List ℕ)) (text text' : List ℕ)
    (len size missing told : ℕ)
    → Grows text text' missing a b → size ≡ length text + len → 29288 < size → missing ≡ 48 - length text
    → told ≡ most (take 48 text') → told < size → TakesPart (PassesBound most text len) a b
passes_bound most a b text text' len size missing told (came, grown, is, taken) sum long few tells less = (
  came,
  taken,
  record { came_is = is ∙ few; passes = rw (← grown) (omega arith) },
)

-- a judged fragment, read whole, is within the bound
pub grown_fits : {A E : Type 0} (r : Result A E) (most : List ℕ → ℕ) (a b c d : Option (List ℕ))
    (text text' text'' : List ℕ) (len read : ℕ) → Grows text text' read a b → read ≤ len
    → IsJudged most text' (length text + len) → OnOk r (Grows text' text'' (len - read) c d)
    → OnOk r (length text'' ≤ most_bytes most text'')
grown_fits (Err e) most a b c d text text' text'' len read front_read part judged rest_read = tt
grown_fits (Ok x) most a b c d text text' text'' len read (front, grown, size, taken) part judged
    (more, grown', size', taken') =
    let whole : length text'' ≡ length text + len = omega (
      arith,
      ap length grown,
      ap length grown',
      length-append text front,
      length-append text' more,
      size,
      size',
    ) in
    rw (whole, grown') (judged_fits most text' more (length text + len) judged)
