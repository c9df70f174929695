-- Lines of words, and the words that stand for values.
use Rattle.std.specs.Prelude.{◌≡◌, ◌==◌, ◌≤◌, ◌++◌, ℕ, false, List, [], Option, Some, None, IfSome, length}
use Rattle.std.specs.Prelude.{option_map}
use Rattle.std.specs.List.{AllByRecursion, slice_split, join_with_byte}
use Rattle.hex.specs.Hex.{IsBytes}
use Rattle.host_keys.specs.declared.words.Words.{Words}

-- the words of a line, between its spaces (32)
abbrev pub words_of : List ℕ → List (List ℕ)
words_of line = slice_split (λ b. b == 32) line

-- the line of words, with one space (32) between
abbrev pub line_of : List (List ℕ) → List ℕ
line_of words = join_with_byte 32 words

-- the words of what is left of a line: none after its last one
abbrev pub words_left : Option (List ℕ) → List (List ℕ)
words_left None = []
words_left (Some rest) = words_of rest

-- the words that a reader has left
abbrev pub left_in : Words → List (List ℕ)
left_in words = words_left (option_map (λ s. s.now) words.rest)

-- 32 bytes
abbrev pub IsDigest : List ℕ → Type 0
IsDigest digest = (length digest ≡ 32) × IsBytes digest

-- a text without a byte
abbrev pub IsFree : ℕ → List ℕ → Type 0
IsFree byte text = AllByRecursion (λ b. (b == byte) ≡ false) text

-- a text without a space (32)
abbrev pub IsWord : List ℕ → Type 0
IsWord text = IsFree 32 text

-- ---- how a reader takes words for a value

-- a number from one to another
abbrev pub IsWithin : (least most : ℕ) → ℕ → Type 0
IsWithin least most n = (least ≤ n) × (n ≤ most)

-- what was taken stands before what is left, spelled as the value is
abbrev pub Takes : {X : Type 0} → (X → Type 0) → (X → List (List ℕ)) → (old : List (List ℕ)) → Option X
    → (new : List (List ℕ)) → Type 0
Takes IsGood spelled old result new = IfSome result (λ x. IsGood x × (old ≡ spelled x ++ new))

-- a value that is spelled there is taken
abbrev pub TakesOnly : {X : Type 0} → (X → Type 0) → (X → List (List ℕ)) → (old : List (List ℕ)) → Option X
    → (new : List (List ℕ)) → Type 0
TakesOnly {X} IsGood spelled old result new =
    (x : X) (rest : List (List ℕ)) → IsGood x → old ≡ spelled x ++ rest
    → (result ≡ Some x) × (new ≡ rest)
