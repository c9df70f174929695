-- A text that is written in two parts.
-- Serves: write_marked, and write_record by it.
use Rattle.std.proofs.Common.{◌≡◌, ℕ, List, ◌++◌, ap, sym, ◌∙◌, arith, length-append, append_assoc}
use Rattle.std.specs.Prelude.{Option, Result, Ok, Err}
use Rattle.std.specs.Io.KnownBytes.{Appends}
use Rattle.std.proofs.KnownBytes.{Appends-trans}
use Rattle.rpc.specs.Records.Writing.{WritesFront, WritesPart}

-- a mark and bytes, of which the front goes with the mark
pub regrouped : (marked first front rest bytes : List ℕ) → first ≡ marked ++ front → bytes ≡ front ++ rest
    → marked ++ bytes ≡ first ++ rest
regrouped marked first front rest bytes e f =
    ap (λ (t : List ℕ). marked ++ t) f ∙ sym (append_assoc marked front rest)
    ∙ ap (λ (t : List ℕ). t ++ rest) (sym e)

-- a text of two parts, of which the first came to its end or not
pub two_parts : {E : Type 0} (a b c : Option (List ℕ)) (x y whole : List ℕ) (r : Result (Unit {0}) E)
    → whole ≡ x ++ y → Appends a b x → WritesPart b c y r → WritesPart a c whole r
two_parts a b c x y whole (Ok u) e wrote part = rw e (Appends-trans _ _ _ _ _ wrote part)
two_parts a b c x y whole (Err d) e wrote (front, unwritten, is, some, part) = (
  x ++ front,
  unwritten,
  e ∙ ap (λ (t : List ℕ). x ++ t) is ∙ sym (append_assoc x front unwritten),
  some,
  Appends-trans _ _ _ _ _ wrote part,
)

-- a text of two parts, of which the first was broken off
pub first_part : (a b : Option (List ℕ)) (x y whole : List ℕ) → whole ≡ x ++ y → WritesFront a b x
    → WritesFront a b whole
first_part a b x y whole e (front, unwritten, is, some, wrote) = (
  front,
  unwritten ++ y,
  e ∙ ap (λ (t : List ℕ). t ++ y) is ∙ append_assoc front unwritten y,
  omega (arith, length-append unwritten y),
  wrote,
)
