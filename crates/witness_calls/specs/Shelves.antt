-- Files that are put on a shelf.
use Rattle.std.specs.Prelude.{◌≡◌, ℕ, List, ◌∷◌, Option, Some, None, IfSome, Contains}

-- what was put on a shelf, the newest first: each file's name and its bytes
abbrev pub Files : Type 0
Files = List (List ℕ × List ℕ)

-- A file of this name with these bytes was put there, if it is known what was.
abbrev pub WasPut : Option Files → (name bytes : List ℕ) → Type 0
WasPut files name bytes = IfSome files (λ fs. Contains fs (name, bytes))

-- What was put on one shelf was put on the other.
abbrev pub KeepsPut : (old new : Option Files) → Type 0
KeepsPut old new = (name bytes : List ℕ) → WasPut old name bytes → WasPut new name bytes

-- A file was put on a shelf.
abbrev pub Puts : (old : Option Files) → (name bytes : List ℕ) → (new : Option Files) → Type 0
Puts None name bytes new = new ≡ None
Puts (Some fs) name bytes new = new ≡ Some ((name, bytes) ∷ fs)
