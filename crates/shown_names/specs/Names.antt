-- How a name is shown.
use Rattle.std.specs.Prelude.{◌==◌, ◌&&◌, ◌/◌, ◌%◌, ◌++◌, ℕ, Bool, List, [], ◌∷◌, codes, flat_map}
use Rattle.std.specs.Prelude.{if◌then◌else◌, nat_lt}
use Rattle.std.specs.Char.{digit_char}

-- a printed character of ASCII, or a blank
abbrev pub is_printed : ℕ → Bool
is_printed byte = nat_lt 31 byte && nat_lt byte 127

-- a backslash after a backslash, a printed character as it is, another byte by its two hexadecimal digits
abbrev pub shown_byte : ℕ → List ℕ
shown_byte byte = if byte == 92 then codes "\\\\"
    else (if is_printed byte then byte ∷ []
    else codes "\\x" ++ digit_char (byte / 16 % 16) ∷ digit_char (byte % 16) ∷ [])

-- byte by byte; two quotes for no bytes
abbrev pub shown_name : List ℕ → List ℕ
shown_name [] = codes "''"
shown_name (byte ∷ rest) = flat_map shown_byte (byte ∷ rest)
