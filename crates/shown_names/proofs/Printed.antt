-- Each name is shown by printed characters alone.
-- Serves: names_are_printed.
use Rattle.std.proofs.Common.{◌≡◌, ◌<◌, ◌%◌, ◌/◌, ◌++◌, ◌==◌, ℕ, List, [], ◌∷◌, Bool, true, false, arith}
use Rattle.std.proofs.Common.{rules, refl, codes, All, IsTrue, flat_map, if◌then◌else◌}
use Rattle.std.proofs.lemmas.Grind.{common_steps}
use Rattle.std.proofs.lemmas.List.Elements.{All-append, All-cons, All-nil}
use Rattle.std.specs.Char.{digit_char}
use Rattle.shown_names.specs.Names.{is_printed, shown_byte, shown_name}

-- a printed character
abbrev pub IsPrinted : ℕ → Type 0
IsPrinted byte = IsTrue (is_printed byte)

-- each of these is one
abbrev pub ArePrinted : List ℕ → Type 0
ArePrinted bytes = All IsPrinted bytes

one : (byte : ℕ) → IsPrinted byte → ArePrinted (byte ∷ [])
one byte is = All-cons IsPrinted byte [] is (All-nil IsPrinted)

two : (byte other : ℕ) → IsPrinted byte → IsPrinted other → ArePrinted (byte ∷ other ∷ [])
two byte other is its = All-cons IsPrinted byte (other ∷ []) is (one other its)

digit_is_printed : (d : ℕ) → d < 16 → IsPrinted (digit_char d)
digit_is_printed d below = grind (arith, common_steps)

-- the two hexadecimal digits of a byte
abbrev pub digits_of : ℕ → List ℕ
digits_of byte = digit_char (byte / 16 % 16) ∷ digit_char (byte % 16) ∷ []

digits_are_printed : (byte : ℕ) → ArePrinted (digits_of byte)
digits_are_printed byte =
    two (digit_char (byte / 16 % 16)) (digit_char (byte % 16))
    (digit_is_printed (byte / 16 % 16) (omega arith)) (digit_is_printed (byte % 16) (omega arith))

by_case : (byte : ℕ) (a b : Bool) → is_printed byte ≡ b
    → ArePrinted (if a then codes "\\\\" else (if b then byte ∷ [] else codes "\\x" ++ digits_of byte))
by_case byte true b is = two 92 92 refl refl
by_case byte false true is = one byte (search (is, rules))
by_case byte false false is =
    All-append IsPrinted (codes "\\x") (digits_of byte) (two 92 120 refl refl) (digits_are_printed byte)

byte_is_printed : (byte : ℕ) → ArePrinted (shown_byte byte)
byte_is_printed byte = by_case byte (byte == 92) (is_printed byte) refl

bytes_are_printed : (bytes : List ℕ) → ArePrinted (flat_map shown_byte bytes)
bytes_are_printed [] = All-nil IsPrinted
bytes_are_printed (byte ∷ rest) =
    All-append IsPrinted (shown_byte byte) (flat_map shown_byte rest) (byte_is_printed byte)
    (bytes_are_printed rest)

pub name_is_printed : (bytes : List ℕ) → ArePrinted (shown_name bytes)
name_is_printed [] = two 39 39 refl refl
name_is_printed (byte ∷ rest) = bytes_are_printed (byte ∷ rest)
