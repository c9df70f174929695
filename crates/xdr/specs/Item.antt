-- What a value is in bytes (RFC 4506, section 4).
use Rattle.std.specs.Prelude.{ℕ, ◌-◌, ◌%◌, ◌^◌, ◌<◌, ◌≤◌, ◌≡◌, Bool, IsTrue, Option, Some, None, IfSome, List}
use Rattle.std.specs.Prelude.{[], ◌++◌, length, replicate, slice_index, if◌then◌else◌}
use Rattle.std.specs.List.{flat_map, AllByRecursion}
use Rattle.byteorder.specs.Endian.{big_bytes}

-- The types of items.
--   word         integer, unsigned integer (4.1, 4.2)
--   word_where   a word that passes a test, as an enumeration does (4.3)
--   flag         boolean (4.4)
--   hyper        hyper integer (4.5); hyper_where: one that passes a test
--   fixed        opaque data of a length that is known (4.9)
--   opaque       opaque data or a string of at most so many bytes (4.10, 4.11)
--   repeated     an array of a count that is known (4.12)
--   array        an array of at most so many items (4.13)
--   pair         a structure, two parts at a time (4.14)
--   choice       a discriminated union: a number that `known` allows, and what stands after it (4.15)
--   empty        void (4.16)
--   optional     optional data (4.19)
--   linked       a list by optional data, as the standard's `stringlist` (4.19)
pub data Item : Type 0 where
  word : Item
  hyper : Item
  flag : Item
  opaque : ℕ → Item
  fixed : ℕ → Item
  empty : Item
  pair : Item → Item → Item
  array : ℕ → Item → Item
  choice : (ℕ → Bool) → (ℕ → Item) → Item
  optional : Item → Item
  linked : Item → Item
  repeated : ℕ → Item → Item
  word_where : (ℕ → Bool) → Item
  hyper_where : (ℕ → Bool) → Item

-- what an item of a type says
abbrev pub Value : Item → Type 0
Value word = ℕ
Value hyper = ℕ
Value flag = Bool
Value (opaque max) = List ℕ
Value (fixed len) = List ℕ
Value empty = Unit {0}
Value (pair a b) = Value a × Value b
Value (array max a) = List (Value a)
Value (choice known body) = (n : ℕ) × Value (body n)
Value (optional a) = Option (Value a)
Value (linked a) = List (Value a)
Value (repeated count a) = List (Value a)
Value (word_where test) = ℕ
Value (hyper_where test) = ℕ

-- a number in len bytes, the highest first
unfoldable pub number_spelling : ℕ → ℕ → List ℕ
number_spelling len n = big_bytes len n

-- the zero bytes after len bytes
abbrev pub padding : ℕ → List ℕ
padding len = replicate ((4 - len % 4) % 4) 0

-- FALSE, or TRUE and the value
abbrev pub optional_spelling : {A : Type 0} → (A → List ℕ) → Option A → List ℕ
optional_spelling text None = number_spelling 4 0
optional_spelling text (Some v) = number_spelling 4 1 ++ text v

-- each value after TRUE, and then FALSE
abbrev pub linked_spelling : {A : Type 0} → (A → List ℕ) → List A → List ℕ
linked_spelling text vs = flat_map (λ v. number_spelling 4 1 ++ text v) vs ++ number_spelling 4 0

-- the one spelling of a value
abbrev pub spelling : (a : Item) → Value a → List ℕ
spelling word n = number_spelling 4 n
spelling hyper n = number_spelling 8 n
spelling flag b = number_spelling 4 (if b then 1 else 0)
spelling (opaque max) bytes = number_spelling 4 (length bytes) ++ (bytes ++ padding (length bytes))
spelling (fixed len) bytes = bytes ++ padding len
spelling empty v = []
spelling (pair a b) v = spelling a v.0 ++ spelling b v.1
spelling (array max a) vs = number_spelling 4 (length vs) ++ flat_map (spelling a) vs
spelling (choice known body) v = number_spelling 4 v.0 ++ spelling (body v.0) v.1
spelling (optional a) v = optional_spelling (spelling a) v
spelling (linked a) vs = linked_spelling (spelling a) vs
spelling (repeated count a) vs = flat_map (spelling a) vs
spelling (word_where test) n = number_spelling 4 n
spelling (hyper_where test) n = number_spelling 8 n

-- what has a spelling
abbrev pub Fits : (a : Item) → Value a → Type 0
Fits word n = n < 2 ^ 32
Fits hyper n = n < 2 ^ 64
Fits flag b = Unit {0}
Fits (opaque max) bytes = (length bytes < 2 ^ 32) × (length bytes ≤ max)
Fits (fixed len) bytes = length bytes ≡ len
Fits empty v = Unit {0}
Fits (pair a b) v = Fits a v.0 × Fits b v.1
Fits (array max a) vs = (length vs < 2 ^ 32) × (length vs ≤ max) × AllByRecursion (Fits a) vs
Fits (choice known body) v = (v.0 < 2 ^ 32) × IsTrue (known v.0) × Fits (body v.0) v.1
Fits (optional a) v = IfSome v (Fits a)
Fits (linked a) vs = AllByRecursion (Fits a) vs
Fits (repeated count a) vs = (length vs ≡ count) × AllByRecursion (Fits a) vs
Fits (word_where test) n = (n < 2 ^ 32) × IsTrue (test n)
Fits (hyper_where test) n = (n < 2 ^ 64) × IsTrue (test n)

-- Each number is a byte.
abbrev pub IsBytes : List ℕ → Type 0
IsBytes bytes = (i : ℕ) → slice_index bytes i < 256
