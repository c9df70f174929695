-- Bytes that are read one after the other.
-- Serves: fill, read_piece, read_bytes, read_fragment.
use Rattle.std.proofs.Common.{◌≡◌, ℕ, ◌+◌, ◌<◌, ◌≤◌, List, ◌++◌, arith, length, take, ap, ◌∙◌}
use Rattle.std.proofs.Common.{length-append, append_assoc, length-take-le}
use Rattle.std.specs.Prelude.{Option}
use Rattle.std.specs.Io.KnownBytes.{Consumes, Keeps}
use Rattle.std.proofs.KnownBytes.{Consumes-trans, Consumes-kept}
use Rattle.rpc.specs.Records.Reading.{Grows, IsShorter, TakesPart}

-- a buffer that isn't full, where a read fails
pub part_read : (a b c : Option (List ℕ)) (n size : ℕ) (buf : List ℕ) → n ≤ length buf → n < size
    → Consumes a b (take n buf) → Keeps b c → TakesPart (IsShorter size) a c
part_read a b c n size buf fits short taken kept =
    (take n buf, Consumes-kept _ _ _ _ taken kept, omega (arith, length-take-le n buf fits))

-- some bytes and then others
pub grows_more : (text text' text'' : List ℕ) (m n k : ℕ) (a b c : Option (List ℕ)) → Grows text text' m a b
    → Grows text' text'' n b c → k ≡ m + n → Grows text text'' k a c
grows_more text text' text'' m n k a b c (first, grown, size, taken) (second, grown', size', taken') sum = (
  first ++ second,
  grown' ∙ ap (λ (t : List ℕ). t ++ second) grown ∙ append_assoc text first second,
  omega (arith, length-append first second, size, size'),
  Consumes-trans _ _ _ _ _ taken taken',
)
