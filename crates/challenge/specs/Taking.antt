-- Items that are taken from the front of bytes.
use Rattle.std.specs.Prelude.{◌≡◌, ◌≤◌, ◌-◌, ℕ, List, length, drop, Result, Ok, Err, Option, IfSome}
use Rattle.xdr.specs.Item.{Item, Value}
use Rattle.xdr.specs.Reading.{read_at}
use Rattle.xdr.specs.declared.fault.XdrFault.{XdrFault}

-- A call over bytes gave the item in front of them, and how many are left after it.
abbrev pub LeavesOf : {X E : Type 0} (fault : E → Option XdrFault) (a : Item) (view : X → Value a)
    (left : X → ℕ) → List ℕ → Result X E → Type 0
LeavesOf fault a view left bytes (Ok x) =
    (left x ≤ length bytes) × (read_at a bytes ≡ Ok (view x, drop (length bytes - left x) bytes))
LeavesOf fault a view left bytes (Err e) = IfSome (fault e) (λ f. read_at a bytes ≡ Err f)
