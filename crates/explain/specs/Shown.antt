-- What a terminal shows as it is.
use Rattle.std.specs.Prelude.{◌==◌, ◌||◌, ℕ, Bool, List, IsTrue}
use Rattle.std.specs.List.{All}
use Rattle.shown_names.specs.Names.{is_printed}

-- printed characters of ASCII, blanks, and the end of a line (10)
abbrev pub is_shown : ℕ → Bool
is_shown byte = byte == 10 || is_printed byte

-- each byte of a text is one of these
abbrev pub IsShown : List ℕ → Type 0
IsShown bytes = All (λ byte. IsTrue (is_shown byte)) bytes
