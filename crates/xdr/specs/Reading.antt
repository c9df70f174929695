-- Reading from the front, with the first fault that is met.
use Rattle.std.specs.Prelude.{◌≡◌, ℕ, zero, suc, ◌+◌, ◌-◌, ◌%◌, Bool, true, false, List, [], ◌∷◌, length}
use Rattle.std.specs.Prelude.{take, drop, Result, Ok, Err, Option, Some, None, IfSome, nat_lt, ◌==◌}
use Rattle.std.specs.Prelude.{if◌then◌else◌}
use Rattle.std.specs.List.{list_all}
use Rattle.byteorder.specs.Endian.{big_number}
use Rattle.xdr.specs.declared.fault.XdrFault.{XdrFault}
use Rattle.xdr.specs.declared.fault.XdrFault.TheVariants.{Short, Padding, BadBool, TooLong, BadEnum}
use Rattle.xdr.specs.Item.{Item, word, hyper, flag, opaque, fixed, empty, pair, array, choice, optional}
use Rattle.xdr.specs.Item.{linked, repeated, word_where, hyper_where, Value}

-- a value and the bytes after it, or the first fault
abbrev pub Read : Type 0 → Type 0
Read A = Result (A × List ℕ) XdrFault

-- what follows a step that gave a value; its fault is the fault of the whole
infixl 10 ◌>>=◌
abbrev pub ◌>>=◌ : {A B : Type 0} → Read A → (A × List ℕ → Read B) → Read B
(Ok x) >>= f = f x
(Err e) >>= f = Err e

-- a number of len bytes, the highest first
unfoldable pub number_at : ℕ → List ℕ → Read ℕ
number_at len bytes =
    if nat_lt (length bytes) len then Err Short
    else Ok (big_number len bytes, drop len bytes)

-- a bool: the number 0 or 1
unfoldable pub flag_at : List ℕ → Read Bool
flag_at bytes = do
  n ← number_at 4 bytes
  if n.0 == 0 then Ok (false, n.1) else if n.0 == 1 then Ok (true, n.1) else Err BadBool

-- len bytes and their padding
unfoldable pub fixed_at : ℕ → List ℕ → Read (List ℕ)
fixed_at len bytes =
    if nat_lt (length bytes) (len + (4 - len % 4) % 4) then Err Short
    else if list_all (λ b. b == 0) (take ((4 - len % 4) % 4) (drop len bytes))
    then Ok (take len bytes, drop ((4 - len % 4) % 4) (drop len bytes))
    else Err Padding

-- at most max bytes after their length
unfoldable pub opaque_at : ℕ → List ℕ → Read (List ℕ)
opaque_at max bytes = do
  len ← number_at 4 bytes
  if nat_lt max len.0 then Err TooLong else fixed_at len.0 len.1

-- count items, each by read
unfoldable pub items_at : {A : Type 0} → (List ℕ → Read A) → ℕ → List ℕ → Read (List A)
items_at read zero bytes = Ok ([], bytes)
items_at read (suc count) bytes = do
  first ← read bytes
  others ← items_at read count first.1
  Ok (first.0 ∷ others.0, others.1)

-- a bool, and after TRUE what read gives
unfoldable pub optional_at : {A : Type 0} → (List ℕ → Read A) → List ℕ → Read (Option A)
optional_at read bytes = do
  more ← flag_at bytes
  if more.0 then (read more.1 >>= λ v. Ok (Some v.0, v.1)) else Ok (None, more.1)

-- what read gives after each TRUE, up to a FALSE. Each bool takes four bytes, so that the fuel, which is the
-- length of the bytes, never runs out before they do.
unfoldable pub linked_at : {A : Type 0} → (List ℕ → Read A) → ℕ → List ℕ → Read (List A)
linked_at read zero bytes = Err Short
linked_at read (suc fuel) bytes = do
  more ← flag_at bytes
  if more.0 then (read more.1 >>= λ v. linked_at read fuel v.1 >>= λ vs. Ok (v.0 ∷ vs.0, vs.1))
      else Ok ([], more.1)

-- a number that passes a test
unfoldable pub tested_at : ℕ → (ℕ → Bool) → List ℕ → Read ℕ
tested_at len test bytes = do
  n ← number_at len bytes
  if test n.0 then Ok n else Err BadEnum

-- an item from the front
abbrev pub read_at : (a : Item) → List ℕ → Read (Value a)
read_at word bytes = number_at 4 bytes
read_at hyper bytes = number_at 8 bytes
read_at flag bytes = flag_at bytes
read_at (opaque max) bytes = opaque_at max bytes
read_at (fixed len) bytes = fixed_at len bytes
read_at empty bytes = Ok (tt, bytes)
read_at (pair a b) bytes = do
  x ← read_at a bytes
  y ← read_at b x.1
  Ok ((x.0, y.0), y.1)
read_at (array max a) bytes = do
  count ← number_at 4 bytes
  if nat_lt max count.0 then Err TooLong else items_at (read_at a) count.0 count.1
read_at (choice known body) bytes = do
  n ← number_at 4 bytes
  if known n.0 then (read_at (body n.0) n.1 >>= λ v. Ok ((n.0, v.0), v.1)) else Err BadEnum
read_at (optional a) bytes = optional_at (read_at a) bytes
read_at (linked a) bytes = linked_at (read_at a) (length bytes) bytes
read_at (repeated count a) bytes = items_at (read_at a) count bytes
read_at (word_where test) bytes = tested_at 4 test bytes
read_at (hyper_where test) bytes = tested_at 8 test bytes

-- A call gave what reading gives, and a refused reader stays. It may have other faults, such as being
-- out of memory: `fault` says which of them are of XDR. The lists are what the reader had left before and
-- after.
abbrev pub ReadsUnless : {X E : Type 0} (fault : E → Option XdrFault) (a : Item)
    → (X → Value a) → List ℕ → Result X E → List ℕ → Type 0
ReadsUnless fault a view old (Ok x) new = read_at a old ≡ Ok (view x, new)
ReadsUnless fault a view old (Err e) new = IfSome (fault e) (λ f. read_at a old ≡ Err f) × (new ≡ old)

-- The same where each fault is one of XDR.
abbrev pub Reads : {X : Type 0} (a : Item) → (X → Value a) → List ℕ → Result X XdrFault → List ℕ → Type 0
Reads a view old result new = ReadsUnless Some a view old result new

-- The same where a refused reader may have moved.
abbrev pub GivesUnless : {X E : Type 0} (fault : E → Option XdrFault) (a : Item)
    → (X → Value a) → List ℕ → Result X E → List ℕ → Type 0
GivesUnless fault a view old (Ok x) new = read_at a old ≡ Ok (view x, new)
GivesUnless fault a view old (Err e) new = IfSome (fault e) (λ f. read_at a old ≡ Err f)

-- Both at once: each fault is one of XDR, and a refused reader may have moved.
abbrev pub Gives : {X : Type 0} (a : Item) → (X → Value a) → List ℕ → Result X XdrFault → List ℕ → Type 0
Gives a view old result new = GivesUnless Some a view old result new

-- The same for a function over bytes, which gives a value and what is left.
abbrev pub GivesFront : {X : Type 0} (a : Item) → (X → Value a × List ℕ) → List ℕ → Result X XdrFault → Type 0
GivesFront a view bytes (Ok x) = read_at a bytes ≡ Ok (view x)
GivesFront a view bytes (Err e) = read_at a bytes ≡ Err e
