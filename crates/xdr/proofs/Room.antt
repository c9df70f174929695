-- What calls that append take of the spare bytes, one after the other.
-- Serves: `add_u32s`, `add_opaque`.
use Rattle.std.proofs.Common.{◌≡◌, ℕ, ◌+◌, ◌<◌, ◌≤◌, Ok, Err, arith}
use Rattle.std.specs.Prelude.{Result, IsErr}
use Rattle.xdr.specs.Writing.{Spends}

-- what was refused because there was no room
pub refused : {E : Type 0} (taken old : ℕ) (r : Result (Unit {0}) E) (new : ℕ) → IsErr r → old < taken
    → Spends taken old r new
refused taken old (Ok x) new is few = absurd cc
refused taken old (Err e) new is few = few

-- a call after one that was done
pub takes_both : {E : Type 0} (first second taken old middle : ℕ) (r : Result (Unit {0}) E) (new : ℕ)
    → taken ≡ first + second → old ≤ middle + first → Spends second middle r new → Spends taken old r new
takes_both first second taken old middle (Ok x) new sum before after = omega arith
takes_both first second taken old middle (Err e) new sum before after = omega arith
