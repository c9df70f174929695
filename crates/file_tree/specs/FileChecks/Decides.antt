-- What a check says of a call.
use Rattle.std.specs.Prelude.{◌≡◌, Result, Ok, Err}
use Rattle.nfs_spec.specs.nfs_items.declared.stat.Stat.{Stat}
use Rattle.nfs_spec.specs.fs_spec.Files.{Files}
use Rattle.nfs_spec.specs.Changes.{Effect}

-- a call is granted where its check passes; else it is refused, with the check's stat
abbrev pub Decides : {A : Type 0} → Effect A → Result (Unit {0}) Stat → Type 0
Decides {A} effect (Ok u) = (x : A × Files) × (effect ≡ Ok x)
Decides effect (Err e) = effect ≡ Err e

-- the check of one condition, with the stat of its refusal
abbrev pub IsCheckOf : Type 0 → Stat → Result (Unit {0}) Stat → Type 0
IsCheckOf P stat (Ok u) = P
IsCheckOf P stat (Err e) = (e ≡ stat) × (P → ⊥)
