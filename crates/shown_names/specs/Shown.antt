-- What is shown.
use Rattle.std.specs.Prelude.{ℕ, List}
use Rattle.shown_names.specs.declared.name.ShownName.{ShownName}

-- the bytes of the name
abbrev pub name_of : ShownName → List ℕ
name_of shown = shown.name.now
