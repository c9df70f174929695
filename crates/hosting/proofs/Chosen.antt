-- What was appended is the results.
-- Serves: add_segment, add_shown.
use Rattle.std.proofs.Common.{◌≡◌, List, ℕ, ◌++◌, Result, Ok, Err}
use Rattle.std.specs.Prelude.{OnOk}
use Rattle.xdr.specs.Writing.{Adds}

pub chosen : {E : Type 0} (Is : List ℕ → Type 0) (text old new : List ℕ) (r : Result (Unit {0}) E) → Is text
    → Adds text old r new → OnOk r ((x : List ℕ) × Is x × (new ≡ old ++ x))
chosen Is text old new (Ok x) is added = (text, is, added)
chosen Is text old new (Err e) is added = tt
