-- Writing at the end of bytes.
use Rattle.std.specs.Prelude.{◌≡◌, ◌<◌, ◌≤◌, ◌+◌, ℕ, List, ◌++◌, Result, Ok, Err}
use Rattle.xdr.specs.Item.{Item, Value, spelling}

-- A call appended text; where it was refused memory, the bytes are as they were.
abbrev pub Appends : {E : Type 0} → List ℕ → List ℕ → Result (Unit {0}) E → List ℕ → Type 0
Appends text old (Ok x) new = new ≡ old ++ text
Appends text old (Err e) new = new ≡ old

-- A call appended the spelling of a value; where it was refused memory, the bytes are as they were.
abbrev pub Writes : {E : Type 0} → (a : Item) → Value a → List ℕ → Result (Unit {0}) E → List ℕ → Type 0
Writes a v old result new = Appends (spelling a v) old result new

-- What was there stays at the front.
abbrev pub Begins : List ℕ → List ℕ → Type 0
Begins old new = (more : List ℕ) × (new ≡ old ++ more)

-- A step of a longer call appended text; where it was refused memory, a part of it may stand.
abbrev pub Adds : {E : Type 0} → List ℕ → List ℕ → Result (Unit {0}) E → List ℕ → Type 0
Adds text old (Ok x) new = new ≡ old ++ text
Adds text old (Err e) new = Begins old new

-- A call that appends so many bytes takes no more of the spare ones, and is refused only where they are too
-- few.
abbrev pub Spends : {E : Type 0} → ℕ → ℕ → Result (Unit {0}) E → ℕ → Type 0
Spends taken old (Ok x) new = old ≤ new + taken
Spends taken old (Err e) new = old < taken
