-- A record in front of some bytes, or none.
-- Serves: record_in_front.
use Rattle.std.proofs.Common.{◌≡◌, ℕ, ◌+◌, ◌<◌, ◌≤◌, List, ◌++◌, arith, length, take, drop, sym, ap, ◌∙◌}
use Rattle.std.proofs.Common.{length-append, append_assoc, take-append-drop, length-take-le, Bool, true}
use Rattle.std.proofs.Common.{false, inl, inr, ◌⊎◌}
use Rattle.rpc.specs.Records.Record.{mark, fragment}
use Rattle.rpc.specs.Records.Ahead.{IsInFront, HasNoneInFront}
use Rattle.rpc.specs.declared.records.record.TheConstants.{MAX_RECORD}
use Rattle.rpc.proofs.OfRecords.Marks.{length-mark, one_mark}

-- a mark of a last fragment, and as many bytes as it says
pub in_front : (bytes front rest : List ℕ) (is_last : Bool) (len : ℕ) → bytes ≡ front ++ rest
    → front ≡ mark is_last len
    → is_last ≡ true → len ≤ MAX_RECORD → len ≤ length rest → IsInFront (take len rest) bytes
in_front bytes front rest is_last len cut marked last few fits =
    let size : length (take len rest) ≡ len = length-take-le len rest fits in (
      omega (arith, size, few),
      drop len rest,
      rw (cut, marked, last, size)
          (ap (λ (t : List ℕ). mark true len ++ t) (sym (take-append-drop len rest))
          ∙ sym (append_assoc (mark true len) (take len rest) (drop len rest))),
    )

-- fewer bytes than a mark has
pub too_few : (bytes : List ℕ) → length bytes < 4 → HasNoneInFront bytes
too_few bytes few r (fits, rest, e) =
    absurd (omega (
      arith,
      ap length e,
      length-append (fragment true r) rest,
      length-append (mark true (length r)) r,
      length-mark true (length r),
    ))

-- a mark of another fragment, or of a longer record than the limit, or fewer bytes than it says
pub not_whole : (bytes front rest : List ℕ) (is_last : Bool) (len : ℕ) → bytes ≡ front ++ rest
    → front ≡ mark is_last len
    → len < 2147483648 → (is_last ≡ false) ⊎ ((MAX_RECORD < len) ⊎ (length rest < len)) → HasNoneInFront bytes
not_whole bytes front rest is_last len cut marked small other r (fits, more, e) =
    let few : length r < 2147483648 = omega (arith, fits) in
    let same = one_mark is_last true len (length r) rest (r ++ more) small few
    (rw (← marked, ← cut) (e ∙ append_assoc (mark true (length r)) r more)) in
    by same.0 same.1 same.2 other
  where
    by : is_last ≡ true → len ≡ length r → rest ≡ r ++ more
        → (is_last ≡ false) ⊎ ((MAX_RECORD < len) ⊎ (length rest < len)) → ⊥
    by last size whole (inl not_last) = absurd cc
    by last size whole (inr (inl long)) = omega (arith, fits, size, long)
    by last size whole (inr (inr short)) = omega (arith, ap length whole, length-append r more, size, short)
