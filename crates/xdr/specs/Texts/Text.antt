-- Whole texts: an item, a test on its value, and nothing after it.
use Rattle.std.specs.Prelude.{◌≡◌, ℕ, Bool, IsTrue, List, [], ◌∷◌, Result, Ok, Err, Option, Some, None}
use Rattle.std.specs.Prelude.{if◌then◌else◌}
use Rattle.std.specs.Bool.{OnTrue}
use Rattle.xdr.specs.Item.{Item, Value, Fits, spelling}
use Rattle.xdr.specs.Reading.{Read, read_at}

-- A kind of text: the item that it spells, and a test on the item's value.
pub record Text : Type 0 where
  pub item : Item
  pub test : Value item → Bool

-- The bytes are the text of a value: its spelling and nothing more.
abbrev pub IsText : (t : Text) → Value t.item → List ℕ → Type 0
IsText t v bytes = Fits t.item v × IsTrue (t.test v) × (bytes ≡ spelling t.item v)

-- what was read, if nothing is left and it passes the test
abbrev pub whole : {A : Type 0} → (A → Bool) → Read A → Option A
whole test (Ok (v, [])) = if test v then Some v else None
whole test (Ok (v, x ∷ xs)) = None
whole test (Err e) = None

-- the value of a text, if the bytes are one
unfoldable pub text_at : (t : Text) → List ℕ → Option (Value t.item)
text_at t bytes = whole t.test (read_at t.item bytes)

-- A call over bytes gave the value of their text, or said that they are none. It may have other faults, such
-- as being out of memory: is_no_text tells which say that.
abbrev pub GivesText : {X E : Type 0} (is_no_text : E → Bool) (t : Text)
    → (X → Value t.item) → List ℕ → Result X E → Type 0
GivesText is_no_text t view bytes (Ok x) = text_at t bytes ≡ Some (view x)
GivesText is_no_text t view bytes (Err e) = OnTrue (is_no_text e) (text_at t bytes ≡ None)
