-- What a map from names to entries lists.
use Rattle.std.specs.Prelude.{ℕ, List, map}
use Rattle.std.specs.declared.vec.Vec.{Vec}
use Rattle.inodes.specs.declared.directories.directory.Entry.{Entry}

-- each name with its number and cookie
abbrev pub entries_of : {A : Type 0} → List (Vec ℕ A × Entry) → List (List ℕ × (ℕ × ℕ))
entries_of es = map (λ e. (e.0.items, (e.1.number, e.1.cookie))) es
